-- `fields::arguments_bad` meets its contract: the four parts, one after the other.
use Prim.Native.Nat.{ℕ, ◌+◌, ◌*◌}
use mathlib.Core.Bool.{Bool}
use mathlib.Core.Path.{◌∙◌, refl}
use native.Mathlib.Omega.{arith}
use lib.Dec.{ltb}
use Rattle.std.proofs.Common.{rules}
use Rattle.std.proofs.lemmas.Iterator.{YieldsList-from_range}
use Rattle.std.proofs.lemmas.Iterator.Search.{any_from_yields_List}
use Rattle.model.specs.Fields.{expression_bad, arguments_bad}
use Rattle.records.proofs.Tests.{any-four}
use Rattle.fields.proofs.arguments_bad.Goals as goal

pub returns : goal.returns
unfolding arguments_bad
returns c =
    let test : ℕ → ℕ → Bool = λ k q. expression_bad c.args.table.now q (ltb k c.args.arity) in
    let p = c.args.p in
    any_from_yields_List (λ k. test k (p + 11 * k)) _ _ _ c.any.ensures.ran (YieldsList-from_range 0 4 4 (search rules) refl) (λ x b q k. search rules)
    ∙ any-four test (λ k. p + 11 * k) p (p + 11) (p + 22) (p + 33) (omega arith) refl refl refl
