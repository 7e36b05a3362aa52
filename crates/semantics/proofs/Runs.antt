-- Every run, with its ending, is what document 01 chooses from its goal: step by step, by `step-held`. Since document 01 leaves no choice (Ends), it
-- is the only one: whatever is derived from the goal ends as the run does. So it is a derivation of the published relation too.
use Prim.Native.Nat.{ℕ, suc, ◌<◌}
use native.Mathlib.Omega.{arith}
use mathlib.Core.Path.{◌≡◌, refl, sym, ◌∙◌, ap, subst}
use mathlib.Core.List.{List, []}
use lib.ListN.{length}
use borrow.Author.Tests.{leb-true, leb-false}
use Rattle.model.specs.declared.Fact.{Fact}
use Rattle.model.specs.declared.RuleNumber.{RuleNumber}
use Rattle.std.specs.Prelude.{Ok}
use Rattle.model.specs.Limits.{history_room}
use Rattle.model.specs.Reading.{read_of}
use Rattle.model.specs.Table.{Table, table_of}
use Rattle.model.specs.declared.Fired.{Fired}
use Rattle.model.specs.Steps.{State, start, prunes, Outcome, moves as moves-, fires as fires-, fails as fails-, stops as stops-, step_item}
use Rattle.model.specs.Results.{Counts, no_counts}
use Rattle.model.specs.Run.{Ended, ended_as, stepped, fired_once, run_from, run}
use Rattle.model.specs.Keeping.{keep_run}
use Rattle.model.specs.Goal.{goal_of}
use Rattle.model.specs.Calls.{RunOutput, output_of, run_of}
use Rattle.model.proofs.Good.{good-table}
use Rattle.model.proofs.Decoded.{every-heads-few}
use Rattle.model.proofs.Loop.{run-done as run-empty, behind_step, every-run}
use Rattle.model.proofs.Pruning.{pruning}
use Rattle.model.proofs.Cut.{Unfinished, run-cut}
use Rattle.model.proofs.Results.{run-cases}
use Rattle.semantics.specs.Chosen.{HistoryAbove, history_above, Chosen, done, fails, spent, stops, moves, fires}
use Rattle.semantics.proofs.Following.{Follows}
use Rattle.semantics.proofs.Steps.{FewHeads, seen, start-follows, Stopped, stopped, crowded, Taken}
use Rattle.semantics.proofs.Held.{Held, held-length, start-held, step-held}
use Rattle.semantics.proofs.Ends.{one-end}
use Rattle.semantics.proofs.Published.{Derives, chosen-derives, Done, Failed, done-is, failed-is}

module _ (t : Table) (few : FewHeads t) where
  -- ---- every run is what document 01 chooses

  -- the equation tells that a run that ends in 2 has an entry left
  abbrev All : ℕ → Counts → State → Ended → Type 0
  All left c st r = r ≡ run_from t left c st → (T : List Fired) → Follows t st T → Held t st.store st.history T → Chosen t left c (seen st T) r

  -- what is left of a run behind one step
  module _ (left : ℕ) (c : Counts) (st : State) (T : List Fired) (ih : (c : Counts) (st : State) → All left c st (run_from t left c st)) where
    stop-chosen : (n p : ℕ) → Stopped t (Held t) st T prunes n p → Chosen t (suc left) c (seen st T) (ended_as n p c st)
    unfolding ended_as
    stop-chosen n p (stopped s) = stops s
    stop-chosen n p (crowded m next f l e) =
        let a : HistoryAbove t (seen st T)
        = record {
          τ = seen next f.T';
          fires = f.fires;
          stack = l;
          above = omega (arith, leb-false (length next.history) history_room e, held-length t next.store next.history f.T' f.known);
        } in
        subst (λ (x : RuleNumber). Chosen t (suc left) c (seen st T) (ended_as 7 x.0 c st)) f.ruled (stops (history_above a))

    turn-chosen : (o : Outcome) → Taken t (Held t) st T prunes o → Chosen t (suc left) c (seen st T) (behind_step prunes t left c st o)
    unfolding ended_as
    turn-chosen (moves- next) u = moves u.3 (ih (stepped c) next refl u.0 u.1 u.2)
    turn-chosen (fires- next) u =
        let f = u.1 in
        fires f.fires (record {
          stack = u.2;
          history = omega (arith, leb-true (length next.history) history_room u.3, held-length t next.store next.history f.T' f.known);
        }) (ih (fired_once c) next refl f.T' f.follows f.known)
    turn-chosen fails- u =
        let e : ended_as 1 0 (stepped c) u.0 ≡ ended_as 1 0 (stepped c) st
        = λ i. ended_as 1 0 (stepped c) (record { stack = []; store = u.1.store i; history = []; next = u.1.next i }) in
        subst (Chosen t (suc left) c (seen st T)) e (fails u.1)
    turn-chosen (stops- n p) u = stop-chosen n p u

  from-chosen : (left : ℕ) (c : Counts) (st : State) → All left c st (run_from t left c st)
  unfolding ended_as
  from-chosen =
      every-run t All (λ left c st e q T k h. done e)
      (λ c st q T k h. spent (λ e. omega (arith, ap (λ (r : Ended). r.result.number) (q ∙ run-empty t c st e 0))))
      (λ left c st e es q ih z T k h. turn-chosen left c st T ih (step_item t st e es e.item) (step-held t few st T k e es q h e.item refl))

  -- every run, with its ending, is what document 01 chooses from its goal
  pub run-derives : (goal : List Fact) (limit : ℕ) → Chosen t limit no_counts (start goal) (run t limit (start goal))
  unfolding run start
  run-derives goal limit = from-chosen limit no_counts (start goal) refl [] (start-follows t goal) (start-held t)

  -- and nothing else is: what document 01 chooses from the goal ends as the run does
  pub run-only : (goal : List Fact) (limit : ℕ) (r : Ended) → Chosen t limit no_counts (start goal) r → r ≡ run t limit (start goal)
  run-only goal limit r d =
      one-end t limit no_counts (start goal) r (run t limit (start goal)) (start-follows t goal).rising d (run-derives goal limit)

  -- the run is a derivation of the published relation
  pub run-published : (goal : List Fact) (limit : ℕ) → Derives t (start goal) no_counts (run t limit (start goal))
  run-published goal limit = chosen-derives t (run-derives goal limit)

  -- unless the run ends in 7, so is the one whose history keeps all
  pub keep-derives : (goal : List Fact) (limit : ℕ) → ((run t limit (start goal)).result.number ≡ 7 → ⊥)
      → Derives t (start goal) no_counts (keep_run t limit (start goal))
  keep-derives goal limit n = subst (Derives t (start goal) no_counts) (sym (pruning t goal limit n)) (run-published goal limit)

  -- a run that is neither done nor failed, one that ends in 7 among them: with its own steps as the limit the run whose history keeps all ends in 2,
  -- with the same counts and store (`keep-cut`), and is a derivation of the published relation
  pub cut-derives : (goal : List Fact) (limit : ℕ) → Unfinished (run t limit (start goal))
      → Derives t (start goal) no_counts (keep_run t (run t limit (start goal)).result.steps (start goal))
  cut-derives goal limit u =
      keep-derives goal (run t limit (start goal)).result.steps
      (λ e. omega (arith, e, ap (λ (r : Ended). r.result.number) (run-cut t limit (start goal) u)))

  -- one that ends in 0 or 1 is a whole derivation
  pub run-done : (goal : List Fact) (limit : ℕ) → (run t limit (start goal)).result.number ≡ 0 → Done t goal (run t limit (start goal))
  run-done goal limit z = let d = run-published goal limit in done-is t goal (run t limit (start goal)) d z d.last refl

  pub run-failed : (goal : List Fact) (limit : ℕ) → (run t limit (start goal)).result.number ≡ 1 → Failed t goal (run t limit (start goal))
  run-failed goal limit z = let d = run-published goal limit in failed-is t goal (run t limit (start goal)) d z d.last refl

-- a good table's rules have at most four heads
pub good-few : (t : List ℕ) → (read_of t).verdict ≡ Ok tt → FewHeads (table_of t)
good-few t e = every-heads-few t (good-table t e)

-- ---- from bytes: a call of a run that is not refused

pub record CallDerives (t g : List ℕ) (limit : ℕ) (buffer : List ℕ) (o : RunOutput) : Type 0 where
  pub ended : Ended
  pub output : o ≡ output_of ended buffer
  pub derives : Chosen (table_of t) limit no_counts (start (goal_of g)) ended
  pub only : (r : Ended) → Chosen (table_of t) limit no_counts (start (goal_of g)) r → r ≡ ended

pub call-derives : (t g : List ℕ) (limit : ℕ) (buffer : List ℕ) → (run_of t g limit buffer).result.number < 16
    → CallDerives t g limit buffer (run_of t g limit buffer)
call-derives t g limit buffer =
    run-cases (λ o. o.result.number < 16 → CallDerives t g limit buffer o) t g limit buffer (λ r low high near l. absurd (omega (arith, low, l)))
    (λ k l. record {
      ended = run (table_of t) limit (start (goal_of g));
      output = refl;
      derives = run-derives (table_of t) (good-few t k.table) (goal_of g) limit;
      only = run-only (table_of t) (good-few t k.table) (goal_of g) limit;
    })
