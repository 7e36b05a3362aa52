-- Laws of the definition, for a reader who asks whether it says what it should, and for the crates that cite them: a value that
-- is a number lies in the range, `equal` is equality, and no number but a comparator's answers.
-- Each goes by the cases of the definition that it is about. Assumes nothing.
use Rattle.std.specs.Prelude.{◌≡◌, refl, Bool, true, false, cond, ◌&&◌, ◌≢◌, ℕ, zero, suc, ◌≤◌, ◌<◌, T, eqb, ℤ, pos, negsuc}
use Rattle.std.proofs.Common.{sym, ap, subst, arith, leb→le, le→leb, SFits, le-leb, eq-eqb, ne_eqb, eqb-true}
use Rattle.std.specs.Int.Signed.{mag, le_z}
use Rattle.std.specs.Int.{w32}
use Rattle.std.proofs.lemmas.Bool.{lt-leb}
use Rattle.std.specs.Prelude.{Option, Some, None}
use Rattle.numbers.specs.Numbers.{lowest, highest, in_range, exact, equal, unless_zero, quotient_of, remainder_of}
use Rattle.numbers.specs.Numbers.{operate, on_numbers, evaluate, judge, compare}
pub use Rattle.numbers.specs.Laws.{InRange, Ranged}

-- ---- a value that is a number lies in the range

-- the same, as 32 bits of the machine hold it
pub in-range-fits : {z : ℤ} → InRange z → SFits w32 z
in-range-fits {z = pos n} r = record { sfits = omega (arith, leb→le n (mag highest) r.high.le) }
in-range-fits {z = negsuc n} r = record { sfits = omega (arith, leb→le n (mag lowest) r.low.le) }

pub pos-ranged : (n : ℕ) → n ≤ mag highest → InRange (pos n)
pos-ranged n h = record { low = record { le = tt }; high = record { le = le→leb n (mag highest) h } }

pub negsuc-ranged : (n : ℕ) → n ≤ mag lowest → InRange (negsuc n)
negsuc-ranged n h = record { low = record { le = le→leb n (mag lowest) h }; high = record { le = tt } }

pub fits-in-range : {z : ℤ} → SFits w32 z → InRange z
fits-in-range {z = pos n} f = pos-ranged n (omega arith)
fits-in-range {z = negsuc n} f = negsuc-ranged n (omega arith)

both : (s t : Bool) → s && t ≡ true → T s × T t
both true true e = (tt, tt)
both true false e = absurd (subst T (sym e) tt)
both false t e = absurd (subst T (sym e) tt)

pub in-range : (z : ℤ) → in_range z ≡ true → InRange z
unfolding in_range
in-range z e = let h = both (le_z lowest z) (le_z z highest) e in record { low = record { le = h.0 }; high = record { le = h.1 } }

-- and a number that lies in the range is its own exact value
pub exact-number : {z : ℤ} → InRange z → exact z ≡ Some z
unfolding exact in_range
exact-number {z = pos n} r = simp (le-leb n (mag highest) (leb→le n (mag highest) r.high.le)) refl
exact-number {z = negsuc n} r = simp (le-leb n (mag lowest) (leb→le n (mag lowest) r.low.le)) refl

pub ranged-number : {z : ℤ} → InRange z → Ranged (Some z)
ranged-number {z} r = record { number = λ w e. let same : z ≡ w = cc in subst InRange same r }

pub ranged-undefined : Ranged None
ranged-undefined = record { number = λ w e. absurd cc }

ranged-cond : (t : Bool) {x y : Option ℤ} → Ranged x → Ranged y → Ranged (cond t x y)
ranged-cond true p q = p
ranged-cond false p q = q

ranged-test : (t : Bool) (z : ℤ) → in_range z ≡ t → Ranged (cond t (Some z) None)
ranged-test true z e = ranged-number (in-range z e)
ranged-test false z e = ranged-undefined

pub exact-ranged : (z : ℤ) → Ranged (exact z)
unfolding exact
exact-ranged z = ranged-test (in_range z) z refl

-- by a divisor other than 0 a division has the value that it says
pub unless-other : (b : ℤ) (v : Option ℤ) → b ≢ pos 0 → unless_zero b v ≡ v
unfolding unless_zero
unless-other (pos zero) v h = absurd (h refl)
unless-other (pos (suc b)) v h = simp (ne_eqb (suc b) 0 (λ (e : suc b ≡ 0). omega arith)) refl
unless-other (negsuc b) v h = refl

divided-ranged : (b z : ℤ) → Ranged (unless_zero b (exact z))
unfolding unless_zero
divided-ranged b z = ranged-cond (equal b (pos 0)) ranged-undefined (exact-ranged z)

pub operate-ranged : (op : ℕ) (a b : ℤ) → InRange a → Ranged (operate op a b)
unfolding operate quotient_of remainder_of
operate-ranged op a b r =
    ranged-cond (eqb op 0) (ranged-number r)
    (ranged-cond (eqb op 1) (exact-ranged _)
    (ranged-cond (eqb op 2) (exact-ranged _)
    (ranged-cond (eqb op 3) (exact-ranged _)
    (ranged-cond (eqb op 4) (divided-ranged b _)
    (ranged-cond (eqb op 5) (divided-ranged b _) ranged-undefined)))))

ranged-numbers : (op : ℕ) (left right : Option ℤ) → Ranged left → Ranged (on_numbers (operate op) left right)
unfolding on_numbers
ranged-numbers op (Some a) (Some b) r = operate-ranged op a b (r.number a refl)
ranged-numbers op (Some a) None r = ranged-undefined
ranged-numbers op None right r = ranged-undefined

pub evaluate-ranged : (op : ℕ) (left right : Option ℤ) → Ranged left → Ranged (evaluate op left right)
unfolding evaluate
evaluate-ranged op left right r = ranged-cond (eqb op 0) r (ranged-numbers op left right r)

-- ---- comparators

pub equal-same : (a : ℤ) → equal a a ≡ true
equal-same (pos n) = eq-eqb n n refl
equal-same (negsuc n) = eq-eqb n n refl

pub equal-is : (a b : ℤ) → equal a b ≡ true → a ≡ b
equal-is (pos a) (pos b) e = ap pos (eqb-true a b e)
equal-is (pos a) (negsuc b) e = absurd (subst T (sym e) tt)
equal-is (negsuc a) (pos b) e = absurd (subst T (sym e) tt)
equal-is (negsuc a) (negsuc b) e = ap negsuc (eqb-true a b e)

-- a number that is no comparator answers neither true nor false
pub no-comparator : (cmp : ℕ) (left right : Option ℤ) → 5 < cmp → compare cmp left right ≡ None
unfolding compare judge
no-comparator cmp (Some a) (Some b) h = simp (lt-leb cmp 5 h)
no-comparator cmp (Some a) None h = refl
no-comparator cmp None right h = refl
