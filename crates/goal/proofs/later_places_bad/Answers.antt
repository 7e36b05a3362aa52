-- `later_places_bad` meets its contract: the four arguments, one after the other.
use Prim.Native.Nat.{ℕ, ◌+◌, ◌*◌}
use mathlib.Core.Bool.{Bool}
use mathlib.Core.Path.{refl, ◌∙◌}
use native.Mathlib.Omega.{arith}
use Rattle.std.proofs.Common.{rules}
use Rattle.std.proofs.lemmas.Iterator.{YieldsList-from_range}
use Rattle.std.proofs.lemmas.Iterator.Search.{any_from_yields_List}
use Rattle.wire.specs.Wire.{u32_at}
use Rattle.model.specs.Goal.{later_bad, later_places_bad}
use Rattle.records.proofs.Tests.{any-four}
use Rattle.goal.proofs.later_places_bad.Goals as goal

pub returns : goal.returns
unfolding later_places_bad
returns c =
    let test : ℕ → ℕ → Bool = λ k q. later_bad c.args.arity k (u32_at c.args.goal.now q) in
    let p = c.args.p in
    any_from_yields_List (λ k. test k (p + 4 * k)) _ _ _ c.any.ensures.ran (YieldsList-from_range 0 4 4 (search rules) refl) (λ x b q k. search rules)
    ∙ any-four test (λ k. p + 4 * k) p (p + 4) (p + 8) (p + 12) (omega arith) refl refl refl
