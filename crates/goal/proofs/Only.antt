-- The contracts of `check_goal` and `goal_fact` leave no choice: any two results that one allows are equal.
use Prim.Native.Nat.{ℕ}
use mathlib.Core.Path.{◌≡◌, sym, ◌∙◌}
use mathlib.Core.List.{List}
use Rattle.model.specs.Goal.{fact_at, goal_verdict}
use Rattle.model.specs.declared.Fact.{Fact}
use Rattle.model.specs.Refusals.{Verdict}

pub one-verdict : (t : List ℕ) (symbols : ℕ) (g : List ℕ) (r q : Verdict) → r ≡ goal_verdict t symbols g → q ≡ goal_verdict t symbols g → r ≡ q
one-verdict t symbols g r q e d = e ∙ sym d

pub one-fact : (g : List ℕ) (p : ℕ) (r q : Fact) → r ≡ fact_at g p → q ≡ fact_at g p → r ≡ q
one-fact g p r q e d = e ∙ sym d
