-- A record's kind byte: 8 is that of the end record, and of no other; and every kind is of some size.
use Prim.Native.Nat.{ℕ}
use mathlib.Core.Path.{◌≡◌, refl, sym, subst}
use mathlib.Core.Logic.{◌≢◌}
use mathlib.Core.Bool.{Bool, true, false, cond}
use native.Mathlib.Omega.{arith}
use lib.Dec.{eqb}
use borrow.Author.Tests.{eqb-true}
use Rattle.std.specs.Prelude.{Some, None}
use Rattle.model.specs.declared.Kind.{Kind}
use Rattle.model.specs.declared.Kind.TheVariants.{NextSymbol, NextRule, KeptHead, RemovedHead, Comparison, BodyFact, BodyFail, EndOfTable}
use Rattle.model.specs.Records.{kind_of, size_of}

pub kind-end : (b : ℕ) → kind_of b ≡ Some EndOfTable → b ≡ 8
unfolding kind_of
kind-end b = go (eqb b 1) (eqb b 2) (eqb b 3) (eqb b 4) (eqb b 5) (eqb b 6) (eqb b 7) (eqb b 8) refl
  where
    go : (x₁ x₂ x₃ x₄ x₅ x₆ x₇ x₈ : Bool) → eqb b 8 ≡ x₈
        → cond x₁ (Some NextSymbol) (cond x₂ (Some NextRule) (cond x₃ (Some KeptHead) (cond x₄ (Some RemovedHead) (cond x₅ (Some Comparison)
        (cond x₆ (Some BodyFact) (cond x₇ (Some BodyFail)
        (cond x₈ (Some EndOfTable) None))))))) ≡ Some EndOfTable
        → b ≡ 8
    go true x₂ x₃ x₄ x₅ x₆ x₇ x₈ e q = cc
    go false true x₃ x₄ x₅ x₆ x₇ x₈ e q = cc
    go false false true x₄ x₅ x₆ x₇ x₈ e q = cc
    go false false false true x₅ x₆ x₇ x₈ e q = cc
    go false false false false true x₆ x₇ x₈ e q = cc
    go false false false false false true x₇ x₈ e q = cc
    go false false false false false false true x₈ e q = cc
    go false false false false false false false true e q = eqb-true b 8 e
    go false false false false false false false false e q = cc

pub end-kind : (b : ℕ) → b ≡ 8 → kind_of b ≡ Some EndOfTable
unfolding kind_of
end-kind b e = subst (λ (x : ℕ). kind_of x ≡ Some EndOfTable) (sym e) refl

pub some-size : (k : Kind) → size_of k ≢ 0
some-size NextSymbol e = omega arith
some-size NextRule e = omega arith
some-size KeptHead e = omega arith
some-size RemovedHead e = omega arith
some-size Comparison e = omega arith
some-size BodyFact e = omega arith
some-size BodyFail e = omega arith
some-size EndOfTable e = omega arith
