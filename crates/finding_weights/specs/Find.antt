-- The call that looks for weights: from the bytes that it is given to its whole result, and to every byte of the lent buffer. The numbers mean what
-- they mean of weighing: a refused table's; 40, "weight count differs from symbols"; 42, a rule that does not lose weight.
use Rattle.std.specs.Prelude.{ℕ, ◌≡◌, Bool, true, false, List, Ok, Err, eqb, length}
use Rattle.model.specs.declared.CallResult.{CallResult}
use Rattle.model.specs.declared.Reason.TheVariants.{WeightCount, HeavyRule}
use Rattle.model.specs.Refusals.{Verdict}
use Rattle.model.specs.Reading.{read_of}
use Rattle.model.specs.Table.{table_of}
use Rattle.model.specs.Results.{refusal, refused_result}
use Rattle.raises.specs.Search.{Sought, found, stopped, search_of}

-- the result, and the buffer's bytes at the return
pub record Finding : Type 0 where
  pub result : CallResult
  pub weights : List ℕ

abbrev pub finding : CallResult → List ℕ → Finding
finding r ws = record { result = r; weights = ws }

-- the buffer is written only for 0; the place of 42 is the rule at which the search stopped
unfoldable pub find_ended : List ℕ → Sought → Finding
find_ended buffer (found ws) = finding (refusal 0 0) ws
find_ended buffer (stopped r ws) = finding (refused_result (record { reason = HeavyRule; place = r })) buffer

module _ (t buffer : List ℕ) where
  unfoldable pub find_count : Bool → Finding
  find_count true = find_ended buffer (search_of (table_of t).rules (read_of t).symbols)
  find_count false = finding (refused_result (record { reason = WeightCount; place = 0 })) buffer

  unfoldable pub find_table : Verdict → Finding
  find_table (Ok u) = find_count (eqb (length buffer) (read_of t).symbols)
  find_table (Err r) = finding (refused_result r) buffer

  unfoldable pub find_of : Finding
  find_of = find_table (read_of t).verdict

-- the result and every byte of the buffer are the definition's
pub record Gives (o : Finding) (r : CallResult) (weights : List ℕ) : Type 0 where
  pub result : r ≡ o.result
  pub bytes : weights ≡ o.weights
