-- The contract of `engine::run` leaves no choice: any two outcomes that it allows for the same table, goal, limit and buffer are equal, in the result and
-- in every byte of the answer, since it is made of equations.
use Prim.Native.Nat.{ℕ}
use mathlib.Core.Path.{◌≡◌, sym, ◌∙◌}
use mathlib.Core.List.{List}
use Rattle.model.specs.declared.CallResult.{CallResult}
use Rattle.model.specs.Calls.{run_of}
use Rattle.engine.specs.Called.{Ran}

pub record SameRun (r q : CallResult) (answer answer' : List ℕ) : Type 0 where
  pub result : r ≡ q
  pub bytes : answer ≡ answer'

-- what the contract says of a call's result and of the answer's bytes behind it
abbrev pub Allowed : List ℕ → List ℕ → ℕ → List ℕ → CallResult → List ℕ → Type 0
Allowed table goal limit answer r after = Ran (run_of table goal limit answer) r after

pub one-run : (table goal : List ℕ) (limit : ℕ) (answer : List ℕ) (r q : CallResult) (after after' : List ℕ)
    → Allowed table goal limit answer r after → Allowed table goal limit answer q after' → SameRun r q after after'
one-run table goal limit answer r q after after' a b = record { result = a.result ∙ sym b.result; bytes = a.answered ∙ sym b.answered }
