-- A run that ends in neither 0 nor 1, run again with its own steps as the limit, ends in 2 with the same counts, identifiers and store: the last state is
-- the same, and its stack is not empty. So a run that ends in 7, which `pruning` leaves out, is covered up to the firing that has no room: with that
-- limit the run whose history keeps all is the same. By the run's own recursion; the limit is what it counts.
use Prim.Native.Nat.{ℕ, suc, ◌+◌}
use native.Mathlib.Omega.{arith}
use mathlib.Core.Path.{◌≡◌, refl, ◌∙◌, ap, subst}
use mathlib.Core.List.{List, ◌∷◌}
use Rattle.model.specs.declared.Fact.{Fact}
use Rattle.model.specs.declared.Entry.{Entry}
use Rattle.model.specs.Table.{Table}
use Rattle.model.specs.Steps.{State, start, prunes, Outcome, moves, fires, fails, stops, step_item}
use Rattle.model.specs.Results.{Counts, counts_of, no_counts, result_of}
use Rattle.model.specs.Run.{Ended, ended_as, stepped, fired_once, run_from, run}
use Rattle.model.specs.Keeping.{keep_run}
use Rattle.model.proofs.Loop.{run-limit, run-moves, run-fires, behind_step, every-run}
use Rattle.model.proofs.Pruning.{pruning}

-- the same state and counts, "step limit used up"
abbrev pub cut : Ended → Ended
cut r = record {
  result = result_of 2 0 (counts_of r.result.steps r.result.firings) r.result.identifiers r.result.stored;
  store = r.store;
}

-- a run that goes on: neither done nor failed
pub record Unfinished (r : Ended) : Type 0 where
  pub not_done : r.result.number ≡ 0 → ⊥
  pub not_failed : r.result.number ≡ 1 → ⊥

pub history-full : (r : Ended) → r.result.number ≡ 7 → Unfinished r
history-full r e = record { not_done = λ q. omega arith; not_failed = λ q. omega arith }

module _ (t : Table) where
  -- r, behind what c counts, took `more` steps
  record CutAt (c : Counts) (st : State) (r : Ended) : Type 0 where
    more : ℕ
    steps : r.result.steps ≡ c.steps + more
    same : run_from t more c st ≡ cut r

  abbrev Cuts : ℕ → Counts → State → Ended → Type 0
  Cuts limit c st r = run_from t limit c st ≡ r → Unfinished r → CutAt c st r

  module _ (limit : ℕ) (c : Counts) (st : State) (e : Entry) (es : List Entry) (q : st.stack ≡ e ∷ es)
      (ih : (c : Counts) (st : State) → Cuts limit c st (run_from t limit c st)) where
    turn-cut : (o : Outcome) → step_item t st e es e.item ≡ o → Unfinished (behind_step prunes t limit c st o)
        → CutAt c st (behind_step prunes t limit c st o)
    unfolding ended_as
    turn-cut (moves next) s u =
        let d = ih (stepped c) next refl u in
        record { more = suc d.more; steps = omega (arith, d.steps); same = run-moves t c st e es q d.more next s ∙ d.same }
    turn-cut (fires next) s u =
        let d = ih (fired_once c) next refl u in
        record { more = suc d.more; steps = omega (arith, d.steps); same = run-fires t c st e es q d.more next s ∙ d.same }
    turn-cut fails s u = absurd (u.not_failed refl)
    turn-cut (stops n p) s u = record { more = 0; steps = omega arith; same = run-limit t c st e es q }

  from-cut : (limit : ℕ) (c : Counts) (st : State) → Cuts limit c st (run_from t limit c st)
  unfolding ended_as
  from-cut =
      every-run t Cuts (λ limit c st q same u. absurd (u.not_done refl)) (λ c st same u. record { more = 0; steps = omega arith; same = same })
      (λ limit c st e es q ih same u. turn-cut limit c st e es q ih (step_item t st e es e.item) refl u)

  -- The run with its own steps as the limit is that.
  pub run-cut : (limit : ℕ) (st : State) → Unfinished (run t limit st) → run t (run t limit st).result.steps st ≡ cut (run t limit st)
  unfolding run
  run-cut limit st u =
      let d = from-cut limit no_counts st refl u in
      let e : d.more ≡ (run_from t limit no_counts st).result.steps = omega (arith, d.steps) in
      subst (λ (k : ℕ). run_from t k no_counts st ≡ cut (run_from t limit no_counts st)) e d.same

  -- So is the run whose history keeps all, whatever the number was.
  pub keep-cut : (goal : List Fact) (limit : ℕ) → Unfinished (run t limit (start goal))
      → keep_run t (run t limit (start goal)).result.steps (start goal) ≡ cut (run t limit (start goal))
  keep-cut goal limit u =
      let r : Ended = run t limit (start goal) in
      let same = run-cut limit (start goal) u in
      pruning t goal r.result.steps (λ e. omega (arith, ap (λ (x : Ended). x.result.number) same)) ∙ same
