-- Laws of the machine's signed numbers that the proofs of `numbers` share: how large a result can be, what is read back of a
-- number that went from 32 to 64 bits, and tests on bits.
use mathlib.Core.Path.{◌≡◌, refl, sym, ap, ◌∙◌}
use mathlib.Core.Bool.{Bool, true, false, cond}
use mathlib.Core.Logic.{◌≢◌}
use Prim.Native.Nat.{ℕ, zero, suc, ◌+◌, ◌-◌, ◌*◌, ◌^◌, ◌≤◌, ◌<◌}
use native.Mathlib.Nat.{mul-le-mul}
use native.Mathlib.Omega.{arith}
use lib.Dec.{ltb, eqb}
use lib.IntN.{ℤ, pos, negsuc, neg_ℤ, sub_ℕ, ◌+ℤ◌, ◌*ℤ◌}
use lib.Signed.{mag}
use mir.Syntax.{w32, w64}
use mir.Val.{SFits, to_z, of_z}
use mir.Facts.{to_z-of_z, sfits_widen}
use borrow.Author.Tests.{eq-eqb, ne_eqb, eqb-true, eqb-false}
use Rattle.numbers.specs.Numbers.{in_range, exact, equal, unless_zero}
use Rattle.numbers.proofs.Laws.{fits-in-range, in-range-fits, in-range, exact-number, unless-other}
use Rattle.std.specs.Prelude.{Option, Some, None, Result, Ok, Err, OkIff, FitsSigned}
use Rattle.std.specs.Option.{SomeIff}
use Rattle.std.specs.Result.{result_ok}

-- ---- the range, by the test of the methods that report an overflow

out-of-range : (z : ℤ) (t : Bool) → in_range z ≡ t → (FitsSigned w32 z → ⊥) → cond t (Some z) None ≡ None
out-of-range z true e h = absurd (h (in-range-fits (in-range z e)))
out-of-range z false e h = refl

-- what such a method gives is the exact value
pub checked : (r : Option ℤ) (z : ℤ) → SomeIff r (FitsSigned w32 z) z → r ≡ exact z
unfolding exact
checked None z h = sym (out-of-range z (in_range z) refl h)
checked (Some x) z h = ap Some h.1 ∙ sym (exact-number (fits-in-range h.0))

pub converted : {E : Type 0} (o : Option ℤ) (r : Result ℤ E) (z : ℤ) → o ≡ result_ok r → OkIff r (FitsSigned w32 z) z → o ≡ exact z
converted o (Ok x) z e h = e ∙ checked (Some x) z h
converted o (Err x) z e h = e ∙ checked None z h

-- ---- how large a result can be

mag-cond : (t : Bool) (x y : ℤ) (n : ℕ) → mag x ≤ n → mag y ≤ n → mag (cond t x y) ≤ n
mag-cond true x y n p q = p
mag-cond false x y n p q = q

mag-sub : (a b : ℕ) → mag (sub_ℕ a b) ≤ a + b
mag-sub a b = mag-cond (ltb a b) (negsuc (b - suc a)) (pos (a - b)) (a + b) (omega arith) (omega arith)

pub mag-sum : (a b : ℤ) → mag (a +ℤ b) ≤ mag a + mag b + 1
mag-sum (pos a) (pos b) = omega arith
mag-sum (pos a) (negsuc b) = omega (arith, mag-sub a (suc b))
mag-sum (negsuc a) (pos b) = omega (arith, mag-sub b (suc a))
mag-sum (negsuc a) (negsuc b) = omega arith

mag-neg : (n : ℕ) → mag (neg_ℤ (pos n)) ≤ n
mag-neg zero = omega arith
mag-neg (suc n) = omega arith

pub mag-negate : (a : ℤ) → mag (neg_ℤ a) ≤ mag a + 1
mag-negate (pos n) = omega (arith, mag-neg n)
mag-negate (negsuc n) = omega arith

-- a product of two numbers of 2 ^ 31 + 1 at most
mul-small : (a b : ℕ) → a ≤ 2147483649 → b ≤ 2147483649 → a * b ≤ 4611686022722355201
mul-small a b p q = mul-le-mul p q

pub mag-prod : (a b : ℤ) → mag a ≤ 2147483648 → mag b ≤ 2147483648 → mag (a *ℤ b) ≤ 4611686022722355201
mag-prod (pos a) (pos b) p q = mul-small a b (omega arith) (omega arith)
mag-prod (pos a) (negsuc b) p q = omega (arith, mag-neg (a * suc b), mul-small a (suc b) (omega arith) (omega arith))
mag-prod (negsuc a) (pos b) p q = omega (arith, mag-neg (suc a * b), mul-small (suc a) b (omega arith) (omega arith))
mag-prod (negsuc a) (negsuc b) p q = mul-small (suc a) (suc b) (omega arith) (omega arith)

-- ---- what the machine reads back of a number that went from 32 to 64 bits

abbrev pub wide : ℤ → ℤ
wide z = to_z w64 (of_z w64 (to_z w32 (of_z w32 z)))

pub wide-is : {z : ℤ} → SFits w32 z → wide z ≡ z
wide-is {z} f = let g : SFits w64 z = sfits_widen tt f in simp to_z-of_z

-- ---- tests on bits

neg-eq : (a b : ℕ) → a < 2147483648 → b < 2147483648 → (t : Bool) → eqb a b ≡ t → eqb (2 ^ 32 - suc a) (2 ^ 32 - suc b) ≡ t
neg-eq a b p q true e = eq-eqb _ _ (ap (λ (n : ℕ). 2 ^ 32 - suc n) (eqb-true a b e))
neg-eq a b p q false e = ne_eqb _ _ (λ (h : 2 ^ 32 - suc a ≡ 2 ^ 32 - suc b). eqb-false a b e (omega arith))

pos-neg : (a b : ℕ) → a < 2147483648 → b < 2147483648 → a ≡ 2 ^ 32 - suc b → ⊥
pos-neg a b p q e = omega arith

-- two numbers are the same where their bits are
pub bits-equal : (a b : ℤ) → SFits w32 a → SFits w32 b → eqb (of_z w32 a) (of_z w32 b) ≡ equal a b
bits-equal (pos a) (pos b) f g = refl
bits-equal (pos a) (negsuc b) f g = ne_eqb _ _ (pos-neg a b f.sfits g.sfits)
bits-equal (negsuc a) (pos b) f g = ne_eqb _ _ (λ e. pos-neg b a g.sfits f.sfits (sym e))
bits-equal (negsuc a) (negsuc b) f g = neg-eq a b f.sfits g.sfits (eqb a b) refl

-- ---- the divisor, by the test of its bits

-- a divisor whose bits are not 0 is not 0
read-other : {b : ℤ} → SFits w32 b → (of_z w32 b ≡ 0 → ⊥) → to_z w32 (of_z w32 b) ≢ pos 0
read-other {b} f h e = h (ap (of_z w32) (sym (to_z-of_z f) ∙ e))

pub by-other : (v : Option ℤ) {b : ℤ} → SFits w32 b → (of_z w32 b ≡ 0 → ⊥) → unless_zero b v ≡ v
by-other v {b} f h = unless-other b v (λ (e : b ≡ pos 0). read-other f h (to_z-of_z f ∙ e))
