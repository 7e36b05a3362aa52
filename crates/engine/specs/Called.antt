-- What the call of a run asks, and what it gives.
use Rattle.std.specs.Prelude.{ℕ, ◌≤◌, ◌≡◌, List, length, Result, Ok, Err}
use Rattle.model.specs.declared.CallResult.{CallResult}
use Rattle.model.specs.declared.Refusal.{Refusal}
use Rattle.model.specs.Limits.{greatest_limit, least_answer}
use Rattle.model.specs.Reading.{read_of}
use Rattle.model.specs.Goal.{goal_verdict}
use Rattle.model.specs.Results.{refused_result}
use Rattle.model.specs.Calls.{RunOutput}

-- what a run is given once its tests are passed
pub record Passed (t g : List ℕ) (limit : ℕ) (answer : List ℕ) : Type 0 where
  pub good_goal : goal_verdict t (read_of t).symbols g ≡ Ok tt
  pub legal : limit ≤ greatest_limit
  pub roomy : least_answer ≤ length answer

-- the result and every byte of the answer buffer are the definition's
pub record Ran (out : RunOutput) (r : CallResult) (answer : List ℕ) : Type 0 where
  pub result : r ≡ out.result
  pub answered : answer ≡ out.answer

-- the result that a refusal is told by
abbrev pub result_of : Result CallResult Refusal → CallResult
result_of (Ok r) = r
result_of (Err e) = refused_result e
