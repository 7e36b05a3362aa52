-- One turn of the run's loop and one of the search's, as laws: what a loop that does the same cites. Each is the definition's own clause.
use Prim.Native.Nat.{ℕ, zero, suc, ◌<◌}
use mathlib.Core.Path.{◌≡◌, refl, ap}
use mathlib.Core.List.{List, [], ◌∷◌}
use lib.ListN.{length, drop, get_or}
use lib.Seq.{drop-cons}
use Rattle.model.specs.declared.Entry.{Entry}
use Rattle.model.specs.declared.Stored.{Stored}
use Rattle.model.specs.Table.{Table}
use Rattle.model.specs.Search.{Found, or_else, first_of}
use Rattle.model.specs.Steps.{State, Memory, prunes, Outcome, moves, fires, fails, stops, step_item}
use Rattle.model.specs.Results.{Counts}
use Rattle.model.specs.Run.{Ended, ended_as, stepped, fired_once, run_with, run_from}

-- ---- the search's loop over the store

pub first_of-turn : (f : Stored → Found) (ss : List Stored) (k : ℕ) (d : Stored) → k < length ss
    → first_of f (drop k ss) ≡ or_else (f (get_or ss k d)) (first_of f (drop (suc k) ss))
unfolding first_of
first_of-turn f ss k d h = ap (first_of f) (drop-cons ss k d h)

-- ---- the run's loop

module _ (t : Table) (c : Counts) (st : State) where
  pub run-done : st.stack ≡ [] → (limit : ℕ) → run_from t limit c st ≡ ended_as 0 0 c st
  unfolding run_with ended_as
  run-done q zero = rw (q, run_with)
  run-done q (suc limit) = rw (q, run_with)

  module _ (e : Entry) (es : List Entry) (q : st.stack ≡ e ∷ es) where
    pub run-limit : run_from t 0 c st ≡ ended_as 2 0 c st
    unfolding run_with ended_as
    run-limit = rw (q, run_with)

    module _ (limit : ℕ) where
      pub run-moves : (next : State) → step_item t st e es e.item ≡ moves next → run_from t (suc limit) c st ≡ run_from t limit (stepped c) next
      unfolding run_with ended_as
      run-moves next s = rw (q, run_with) (rw s)

      pub run-fires : (next : State) → step_item t st e es e.item ≡ fires next → run_from t (suc limit) c st ≡ run_from t limit (fired_once c) next
      unfolding run_with ended_as
      run-fires next s = rw (q, run_with) (rw s)

      pub run-fails : step_item t st e es e.item ≡ fails → run_from t (suc limit) c st ≡ ended_as 1 0 (stepped c) st
      unfolding run_with ended_as
      run-fails s = rw (q, run_with) (rw s)

      pub run-stops : (n p : ℕ) → step_item t st e es e.item ≡ stops n p → run_from t (suc limit) c st ≡ ended_as n p c st
      unfolding run_with ended_as
      run-stops n p s = rw (q, run_with) (rw s)

-- ---- every run: what holds where a run ends at once, and behind a step if it holds of all that can follow, holds of every run

-- how a run goes on after the outcome of a step
abbrev pub behind_step : Memory → Table → ℕ → Counts → State → Outcome → Ended
behind_step m t limit c st o =
    elim o [
      | moves next ↦ run_with m t limit (stepped c) next
      | fires next ↦ run_with m t limit (fired_once c) next
      | fails ↦ ended_as 1 0 (stepped c) st
      | stops n p ↦ ended_as n p c st
    ]

module _ (t : Table) (P : ℕ → Counts → State → Ended → Type 0)
    (done : (limit : ℕ) (c : Counts) (st : State) → st.stack ≡ [] → P limit c st (ended_as 0 0 c st))
    (out : (c : Counts) (st : State) → P 0 c st (ended_as 2 0 c st))
    (turn : (limit : ℕ) (c : Counts) (st : State) (e : Entry) (es : List Entry) → st.stack ≡ e ∷ es
    → ((c : Counts) (st : State) → P limit c st (run_from t limit c st))
    → P (suc limit) c st (behind_step prunes t limit c st (step_item t st e es e.item))) where
  pub every-run : (limit : ℕ) (c : Counts) (st : State) → P limit c st (run_from t limit c st)
  unfolding run_with
  every-run zero c st = go st.stack refl
    where
      go : (es : List Entry) → st.stack ≡ es → P 0 c st (elim es [ [] ↦ ended_as 0 0 c st | e ∷ es ↦ ended_as 2 0 c st ])
      go [] q = done 0 c st q
      go (e ∷ es) q = out c st
  every-run (suc limit) c st = go (λ c st. every-run limit c st) st.stack refl
    where
      go : ((c : Counts) (st : State) → P limit c st (run_from t limit c st)) → (es : List Entry) → st.stack ≡ es
          → P (suc limit) c st (elim es [ [] ↦ ended_as 0 0 c st | e ∷ es ↦ behind_step prunes t limit c st (step_item t st e es e.item) ])
      go ih [] q = done (suc limit) c st q
      go ih (e ∷ es) q = turn limit c st e es q ih
