-- The three public calls: from the bytes that a call is given to its whole result, and to every byte of lent memory.
use Rattle.std.specs.Prelude.{ℕ, zero, suc, Bool, true, false, List, Ok, Err, leb, eqb, length, Option, Some, None}
use Rattle.model.specs.declared.Symbol.{Symbol}
use Rattle.model.specs.declared.RuleNumber.{RuleNumber}
use Rattle.model.specs.declared.Stored.{Stored}
use Rattle.model.specs.declared.CallResult.{CallResult}
use Rattle.model.specs.declared.Weighing.{Weighing}
use Rattle.model.specs.declared.Reason.TheVariants.{StepLimit, ShortAnswer, WeightCount, ZeroWeight, HeavyRule}
use Rattle.model.specs.declared.Refusal.{Refusal}
use Rattle.model.specs.Limits.{greatest_limit, least_answer}
use Rattle.model.specs.Refusals.{Verdict}
use Rattle.model.specs.Reading.{read_of}
use Rattle.model.specs.Table.{Table, table_of}
use Rattle.model.specs.Results.{refusal, refused_result}
use Rattle.model.specs.Steps.{start}
use Rattle.model.specs.Run.{Ended, run}
use Rattle.model.specs.Goal.{goal_verdict, goal_of}
use Rattle.model.specs.Answer.{answered}
use Rattle.model.specs.Weights.{weight_in, goal_weight, most_places, most_facts, step_bound, first_zero, first_heavy}

-- ---- check: "Checking a good table gives six zeros."

unfoldable pub verdict_result : Verdict → CallResult
verdict_result (Ok u) = refusal 0 0
verdict_result (Err r) = refused_result r

unfoldable pub check_of : List ℕ → CallResult
check_of t = verdict_result (read_of t).verdict

-- ---- run: "A run tests table, goal (32, 34, 33), 35, 36."

-- the result, and the answer buffer's bytes at the return
pub record RunOutput : Type 0 where
  pub result : CallResult
  pub answer : List ℕ

-- "The answer buffer is written only for 0"
abbrev pub answer_if : ℕ → List Stored → List ℕ → List ℕ
answer_if zero store buffer = answered store buffer
answer_if (suc n) store buffer = buffer

unfoldable pub output_of : Ended → List ℕ → RunOutput
output_of r buffer = record { result = r.result; answer = answer_if r.result.number r.store buffer }

abbrev pub refused_run : Refusal → List ℕ → RunOutput
refused_run r buffer = record { result = refused_result r; answer = buffer }

module _ (t g : List ℕ) (limit : ℕ) (buffer : List ℕ) where
  abbrev pub if_room : Bool → RunOutput
  if_room true = output_of (run (table_of t) limit (start (goal_of g))) buffer
  if_room false = refused_run (record { reason = ShortAnswer; place = 0 }) buffer

  abbrev pub if_limit : Bool → RunOutput
  if_limit true = if_room (leb least_answer (length buffer))
  if_limit false = refused_run (record { reason = StepLimit; place = 0 }) buffer

  abbrev pub if_goal : Verdict → RunOutput
  if_goal (Ok u) = if_limit (leb limit greatest_limit)
  if_goal (Err r) = refused_run r buffer

  abbrev pub if_table : Verdict → RunOutput
  if_table (Ok u) = if_goal (goal_verdict t (read_of t).symbols g)
  if_table (Err r) = refused_run r buffer

  unfoldable pub run_of : RunOutput
  run_of = if_table (read_of t).verdict

-- ---- weigh: "Weighing tests table, 40, 41, 42, then the goal; on 0 it gives the W and step bound .., and otherwise both are 0."

abbrev pub refused_weighing : Refusal → Weighing
refused_weighing r = record { result = refused_result r; weight = 0; bound = 0 }

module _ (t weights g : List ℕ) where
  -- W, and the bound with G, B and M
  unfoldable pub weighed : Weighing
  weighed =
      let table : Table = table_of t in
      let W = goal_weight (weight_in weights) (goal_of g) in
      record { result = refusal 0 0; weight = W; bound = step_bound (length (goal_of g)) (most_facts table.rules) W (most_places table table.symbols) }

  abbrev pub weigh_goal : Verdict → Weighing
  weigh_goal (Ok u) = weighed
  weigh_goal (Err r) = refused_weighing r

  abbrev pub weigh_rules : Option RuleNumber → Weighing
  weigh_rules None = weigh_goal (goal_verdict t (read_of t).symbols g)
  weigh_rules (Some r) = refused_weighing (record { reason = HeavyRule; place = r.0 })

  abbrev pub weigh_zero : Option Symbol → Weighing
  weigh_zero None = weigh_rules (first_heavy (weight_in weights) 0 (table_of t).rules)
  weigh_zero (Some s) = refused_weighing (record { reason = ZeroWeight; place = s.0 })

  -- 40: "weight count differs from symbols"
  abbrev pub weigh_count : Bool → Weighing
  weigh_count true = weigh_zero (first_zero 0 weights)
  weigh_count false = refused_weighing (record { reason = WeightCount; place = 0 })

  abbrev pub weigh_table : Verdict → Weighing
  weigh_table (Ok u) = weigh_count (eqb (length weights) (read_of t).symbols)
  weigh_table (Err r) = refused_weighing r

  unfoldable pub weigh_of : Weighing
  weigh_of = weigh_table (read_of t).verdict
