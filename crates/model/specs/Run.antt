-- The run: its endings 0..7, and its counts.
use Rattle.std.specs.Prelude.{ℕ, zero, suc, ◌-◌, List, [], ◌∷◌, length}
use Rattle.model.specs.declared.Stored.{Stored}
use Rattle.model.specs.declared.CallResult.{CallResult}
use Rattle.model.specs.Results.{Counts, counts_of, no_counts, result_of}
use Rattle.model.specs.Table.{Table}
use Rattle.model.specs.Steps.{State, Memory, prunes, moves, fires, fails, stops, step_with}

-- the result, and the facts that are stored at the end
pub record Ended : Type 0 where
  pub result : CallResult
  pub store : List Stored

unfoldable pub ended_as : ℕ → ℕ → Counts → State → Ended
ended_as n p c st = record { result = result_of n p c (st.next - 1) (length st.store); store = st.store }

-- the counts after a step that is no firing, and after a firing
abbrev pub stepped : Counts → Counts
stepped c = counts_of (suc c.steps) c.firings

abbrev pub fired_once : Counts → Counts
fired_once c = counts_of (suc c.steps) (suc c.firings)

-- "An empty stack is done, tested before the step limit. Otherwise, with steps left, the top entry decides".
-- "Numbers 1..7 report the state before the untaken step (for 1, after Fail)."
-- limit is what is left of the step limit, and c what has been counted
unfoldable pub run_with : Memory → Table → ℕ → Counts → State → Ended
run_with m t zero c st = elim st.stack [ [] ↦ ended_as 0 0 c st | e ∷ es ↦ ended_as 2 0 c st ]
run_with m t (suc limit) c st =
    elim st.stack [
      | [] ↦ ended_as 0 0 c st
      | e ∷ es ↦ elim (step_with m t st e es e.item) [
        | moves next ↦ run_with m t limit (stepped c) next
        | fires next ↦ run_with m t limit (fired_once c) next
        | fails ↦ ended_as 1 0 (stepped c) st
        | stops n p ↦ ended_as n p c st
      ]
    ]

abbrev pub run_from : Table → ℕ → Counts → State → Ended
run_from = run_with prunes

unfoldable pub run : Table → ℕ → State → Ended
run t limit st = run_from t limit no_counts st
