-- `variables::strange_fact` meets its contract: the four arguments, one after the other.
use Prim.Native.Nat.{ℕ, ◌+◌, ◌*◌}
use mathlib.Core.Bool.{Bool}
use mathlib.Core.Path.{refl, ◌∙◌}
use native.Mathlib.Omega.{arith}
use Rattle.std.proofs.Common.{rules}
use Rattle.std.proofs.lemmas.Iterator.{YieldsList-from_range}
use Rattle.std.proofs.lemmas.Iterator.Search.{any_from_yields_List}
use Rattle.model.specs.Variables.{strange_expression, strange_fact}
use Rattle.records.proofs.Tests.{any-four}
use Rattle.variables.proofs.strange_fact.Goals as goal

pub returns : goal.returns
unfolding strange_fact
returns c =
    let test : ℕ → ℕ → Bool = λ k q. strange_expression c.args.table.now c.args.rule.start c.args.rule.heads q in
    let at = c.args.at in
    any_from_yields_List (λ k. test k (at + 2 + 11 * k)) _ _ _ c.any.ensures.ran (YieldsList-from_range 0 4 4 (search rules) refl) (λ x b q k. search rules)
    ∙ any-four test (λ k. at + 2 + 11 * k) (at + 2) (at + 13) (at + 24) (at + 35) (omega arith) (omega arith) (omega arith) (omega arith)
