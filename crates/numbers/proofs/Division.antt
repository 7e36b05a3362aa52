-- Quotient and remainder are the ones meant: "the greatest whole number not above the exact one, and the remainder takes the divisor's sign" (document 02,
-- No. 1). For every divisor but 0 there is one pair q, r with a = b·q + r and 0 ≤ r < b or b < r ≤ 0; the definition gives it, and its q is the
-- greatest number not above the exact quotient. It holds by ℕ's own division for a divisor above 0, and for one below 0 since turning the signs of
-- dividend and divisor leaves the quotient and turns the sign of what is left. Assumes nothing.
use mathlib.Core.Path.{◌≡◌, refl, sym, ap, subst, ◌∙◌}
use mathlib.Core.Bool.{Bool, true, false, cond}
use mathlib.Core.Logic.{◌≢◌}
use Prim.Native.Nat.{ℕ, zero, suc, ◌+◌, ◌-◌, ◌*◌, ◌/◌, ◌%◌, ◌≤◌, ◌<◌}
use native.Mathlib.Nat.{zero-mul, mul-suc, suc-mul, mul_comm, div-add-mod, mod-lt, mul-div-le, div-le_self, div-lt_self, div-one, div-eq_of_lt-le}
use native.Mathlib.Nat.{le-div_iff_mul-le, div-lt_iff_lt-mul}
use native.Mathlib.Omega.{arith}
use lib.Dec.{T, leb→le, le→leb, ltb→lt, lt→ltb}
use lib.IntN.{ℤ, pos, negsuc, neg_ℤ, ◌+ℤ◌, ◌-ℤ◌, ◌*ℤ◌, neg_ℤ-neg_ℤ, neg_ℤ-+ℤ, +ℤ_comm, +ℤ-neg_ℤ_cancel}
use lib.Signed.{mag, lt_z, le_z, ◌≤ℤ◌, ◌<ℤ◌}
use borrow.Author.Tests.{lt-ltb}
use Rattle.std.specs.Prelude.{Some, None}
use Rattle.numbers.specs.Numbers.{lowest, highest, in_range, exact, equal, unless_zero, down, floor_z, mod_z, quotient_of, remainder_of}
use Rattle.numbers.proofs.Laws.{InRange, pos-ranged, negsuc-ranged, exact-number, unless-other}

-- ---- what is meant

-- what a division by b may leave: 0 ≤ r < b or b < r ≤ 0
pub data Left (b r : ℤ) : Type 0 where
  above : pos 0 ≤ℤ r → r <ℤ b → Left b r
  below : b <ℤ r → r ≤ℤ pos 0 → Left b r

-- a by b is q, and r is left: a = b·q + r
pub record Division (a b q r : ℤ) : Type 0 where
  pub back : b *ℤ q +ℤ r ≡ a
  pub left : Left b r

-- k is "not above the exact one", a by b: both times the divisor, which turns the order where it is below 0
abbrev pub NotAbove : ℤ → ℤ → ℤ → Type 0
NotAbove a (pos b) k = (pos b *ℤ k) ≤ℤ a
NotAbove a (negsuc b) k = a ≤ℤ (negsuc b *ℤ k)

-- "the greatest whole number not above the exact one"
pub record Greatest (a b q : ℤ) : Type 0 where
  pub not_above : NotAbove a b q
  pub greatest : (k : ℤ) → NotAbove a b k → k ≤ℤ q

-- ---- the signs turned

neg-mul : (b q : ℤ) → neg_ℤ b *ℤ q ≡ neg_ℤ (b *ℤ q)
neg-mul (pos zero) (pos q) = rw zero-mul refl
neg-mul (pos zero) (negsuc q) = rw zero-mul refl
neg-mul (pos (suc b)) (pos q) = refl
neg-mul (pos (suc b)) (negsuc q) = sym (neg_ℤ-neg_ℤ (pos (suc b * suc q)))
neg-mul (negsuc b) (pos q) = sym (neg_ℤ-neg_ℤ (pos (suc b * q)))
neg-mul (negsuc b) (negsuc q) = refl

neg-le : (x y : ℤ) → T (le_z x y) → T (le_z (neg_ℤ y) (neg_ℤ x))
neg-le (pos zero) (pos zero) h = tt
neg-le (pos zero) (pos (suc y)) h = tt
neg-le (pos (suc x)) (pos zero) h = absurd (let k : suc x ≤ 0 = leb→le (suc x) 0 h in omega arith)
neg-le (pos (suc x)) (pos (suc y)) h = le→leb x y (let k = leb→le (suc x) (suc y) h in omega arith)
neg-le (pos x) (negsuc y) h = absurd h
neg-le (negsuc x) (pos zero) h = le→leb 0 (suc x) (omega arith)
neg-le (negsuc x) (pos (suc y)) h = tt
neg-le (negsuc x) (negsuc y) h = le→leb (suc y) (suc x) (let k = leb→le y x h in omega arith)

neg-lt : (x y : ℤ) → T (lt_z x y) → T (lt_z (neg_ℤ y) (neg_ℤ x))
neg-lt (pos zero) (pos zero) h = absurd h
neg-lt (pos zero) (pos (suc y)) h = tt
neg-lt (pos (suc x)) (pos zero) h = absurd (let k : suc x < 0 = ltb→lt (suc x) 0 h in omega arith)
neg-lt (pos (suc x)) (pos (suc y)) h = lt→ltb x y (let k = ltb→lt (suc x) (suc y) h in omega arith)
neg-lt (pos x) (negsuc y) h = absurd h
neg-lt (negsuc x) (pos zero) h = lt→ltb 0 (suc x) (omega arith)
neg-lt (negsuc x) (pos (suc y)) h = tt
neg-lt (negsuc x) (negsuc y) h = lt→ltb (suc y) (suc x) (let k = ltb→lt y x h in omega arith)

left-turned : {b r : ℤ} → Left b r → Left (neg_ℤ b) (neg_ℤ r)
left-turned {b} {r} (above h k) = below (record { lt = neg-lt r b k.lt }) (record { le = neg-le (pos 0) r h.le })
left-turned {b} {r} (below h k) = above (record { le = neg-le r (pos 0) k.le }) (record { lt = neg-lt b r h.lt })

-- dividend and divisor with their signs turned: the same quotient, and what is left has its sign turned
turned : {a b q r : ℤ} → Division a b q r → Division (neg_ℤ a) (neg_ℤ b) q (neg_ℤ r)
turned {a} {b} {q} {r} d = record {
  back = ap (λ (z : ℤ). z +ℤ neg_ℤ r) (neg-mul b q) ∙ sym (neg_ℤ-+ℤ (b *ℤ q) r) ∙ ap neg_ℤ d.back;
  left = left-turned d.left;
}

-- ---- a divisor above 0

-- -m + r, where r is less than m
neg-plus : (m r k : ℕ) → m ≡ suc (k + r) → neg_ℤ (pos m) +ℤ pos r ≡ negsuc k
neg-plus zero r k e = absurd (let z : 0 ≡ suc (k + r) = e in omega arith)
neg-plus (suc m) r k e = simp (lt-ltb r (suc m) (omega arith)) (ap negsuc (omega arith))

-- b·q + r determines q
up-only : (q : ℤ) (b r : ℕ) → r < b → down (pos b *ℤ q +ℤ pos r) b ≡ q
up-only (pos x) b r h = ap pos (div-eq_of_lt-le b (omega (arith, mul_comm b x)) (omega (arith, mul_comm b x)))
up-only (negsuc x) b r h =
    let k = b * suc x - suc r in
    let is : neg_ℤ (pos (b * suc x)) +ℤ pos r ≡ negsuc k = neg-plus (b * suc x) r k (omega (arith, mul-suc b x)) in
    let low : x * b ≤ k = omega (arith, mul-suc b x, mul_comm b x) in
    let high : k < (x + 1) * b = omega (arith, mul-suc b x, mul_comm b x, suc-mul x b) in
    ap (λ (z : ℤ). down z b) is ∙ ap negsuc (div-eq_of_lt-le b low high)

-- what the quotient, rounded down, leaves
abbrev up-left : ℤ → ℕ → ℕ
up-left (pos n) b = n % b
up-left (negsuc n) b = b - suc (n % b)

up-small : (a : ℤ) (b : ℕ) → 0 < b → up-left a b < b
up-small (pos n) b h = mod-lt n h
up-small (negsuc n) b h = omega arith

up-back : (a : ℤ) (b : ℕ) → 0 < b → pos b *ℤ down a b +ℤ pos (up-left a b) ≡ a
up-back (pos n) b h = ap pos (div-add-mod n b)
up-back (negsuc n) b h =
    neg-plus (b * suc (n / b)) (b - suc (n % b)) n (omega (arith, mul-suc b (n / b), div-add-mod n b, mod-lt n h))

up-division : (a : ℤ) (b : ℕ) → 0 < b → Division a (pos b) (down a b) (pos (up-left a b))
up-division a b h = record {
  back = up-back a b h;
  left = above (record { le = le→leb 0 (up-left a b) (omega arith) }) (record { lt = lt→ltb (up-left a b) b (up-small a b h) });
}

-- q is determined by what it leaves
up-floor : (a q : ℤ) (b : ℕ) (r : ℤ) → pos b *ℤ q +ℤ r ≡ a → Left (pos b) r → down a b ≡ q
up-floor a q b (pos r) e (above h k) = ap (λ (z : ℤ). down z b) (sym e) ∙ up-only q b r (ltb→lt r b k.lt)
up-floor a q b (negsuc r) e (above h k) = absurd h.le
up-floor a q b (pos r) e (below h k) = absurd (let z = ltb→lt b r h.lt in let w = leb→le r 0 k.le in omega arith)
up-floor a q b (negsuc r) e (below h k) = absurd h.lt

-- ---- every divisor but 0

abbrev left-of : ℤ → ℤ → ℤ
left-of a (pos b) = pos (up-left a b)
left-of a (negsuc b) = neg_ℤ (pos (up-left (neg_ℤ a) (suc b)))

some-division : (a b : ℤ) → b ≢ pos 0 → Division a b (floor_z a b) (left-of a b)
unfolding floor_z
some-division a (pos zero) h = absurd (h refl)
some-division a (pos (suc b)) h = up-division a (suc b) (omega arith)
some-division a (negsuc b) h =
    subst (λ (z : ℤ). Division z (negsuc b) (down (neg_ℤ a) (suc b)) (left-of a (negsuc b))) (neg_ℤ-neg_ℤ a)
    (turned (up-division (neg_ℤ a) (suc b) (omega arith)))

-- what is left, from dividend and quotient
left-is : {a b q r : ℤ} → Division a b q r → a -ℤ b *ℤ q ≡ r
left-is {a} {b} {q} {r} d =
    ap (λ (z : ℤ). z -ℤ b *ℤ q) (sym d.back ∙ +ℤ_comm (b *ℤ q) r) ∙ +ℤ-neg_ℤ_cancel r (b *ℤ q)

-- the definition's pair divides
pub division : (a b : ℤ) → b ≢ pos 0 → Division a b (floor_z a b) (mod_z a b)
unfolding mod_z
division a b h = let d = some-division a b h in subst (λ (z : ℤ). Division a b (floor_z a b) z) (sym (left-is d)) d

-- and every pair that divides is the definition's
pub floor-is : (a b q r : ℤ) → Division a b q r → floor_z a b ≡ q
unfolding floor_z
floor-is a (pos b) q r d = up-floor a q b r d.back d.left
floor-is a (negsuc b) q r d = let t = turned d in up-floor (neg_ℤ a) q (suc b) (neg_ℤ r) t.back t.left

pub mod-is : (a b q r : ℤ) → Division a b q r → mod_z a b ≡ r
unfolding mod_z
mod-is a b q r d = ap (λ (z : ℤ). a -ℤ b *ℤ z) (floor-is a b q r d) ∙ left-is d

-- so there is one pair alone
pub one-division : (a b q r s t : ℤ) → Division a b q r → Division a b s t → (q ≡ s) × (r ≡ t)
one-division a b q r s t d e = (sym (floor-is a b q r d) ∙ floor-is a b s t e, sym (mod-is a b q r d) ∙ mod-is a b s t e)

-- ---- the greatest whole number not above the exact one

neg-below : (m n : ℕ) → n < m → T (le_z (neg_ℤ (pos m)) (negsuc n))
neg-below zero n h = absurd (let k : n < 0 = h in omega arith)
neg-below (suc m) n h = le→leb n m (omega arith)

below-neg : (m n : ℕ) → T (le_z (neg_ℤ (pos m)) (negsuc n)) → n < m
below-neg zero n h = absurd h
below-neg (suc m) n h = let k = leb→le n m h in omega arith

up-reached : (a : ℤ) (b : ℕ) → 0 < b → T (le_z (pos b *ℤ down a b) a)
up-reached (pos n) b h = le→leb (b * (n / b)) n (mul-div-le n b)
up-reached (negsuc n) b h = neg-below (b * suc (n / b)) n (omega (arith, mul-suc b (n / b), div-add-mod n b, mod-lt n h))

up-greatest : (a : ℤ) (b : ℕ) → 0 < b → (k : ℤ) → T (le_z (pos b *ℤ k) a) → T (le_z k (down a b))
up-greatest (pos n) b h (pos k) e = le→leb k (n / b) ((le-div_iff_mul-le h).1 (omega (arith, mul_comm b k, leb→le (b * k) n e)))
up-greatest (pos n) b h (negsuc k) e = tt
up-greatest (negsuc n) b h (pos k) e = absurd e
up-greatest (negsuc n) b h (negsuc k) e =
    le→leb (n / b) k (let l : n / b < suc k = (div-lt_iff_lt-mul h).1 (omega (arith, mul_comm b (suc k), below-neg (b * suc k) n e)) in omega arith)

-- by a divisor below 0: the signs turned
down-turned : (a k : ℤ) (b : ℕ) → T (le_z a (negsuc b *ℤ k)) → T (le_z (pos (suc b) *ℤ k) (neg_ℤ a))
down-turned a k b h =
    subst (λ (z : ℤ). T (le_z z (neg_ℤ a))) (ap neg_ℤ (neg-mul (pos (suc b)) k) ∙ neg_ℤ-neg_ℤ (pos (suc b) *ℤ k)) (neg-le a (negsuc b *ℤ k) h)

turned-down : (a k : ℤ) (b : ℕ) → T (le_z (pos (suc b) *ℤ k) (neg_ℤ a)) → T (le_z a (negsuc b *ℤ k))
turned-down a k b h =
    subst (λ (z : ℤ). T (le_z z (negsuc b *ℤ k))) (neg_ℤ-neg_ℤ a)
    (subst (λ (z : ℤ). T (le_z (neg_ℤ (neg_ℤ a)) z)) (sym (neg-mul (pos (suc b)) k)) (neg-le (pos (suc b) *ℤ k) (neg_ℤ a) h))

pub floor-greatest : (a b : ℤ) → b ≢ pos 0 → Greatest a b (floor_z a b)
unfolding floor_z
floor-greatest a (pos zero) h = absurd (h refl)
floor-greatest a (pos (suc b)) h = record {
  not_above = record { le = up-reached a (suc b) (omega arith) };
  greatest = λ k e. record { le = up-greatest a (suc b) (omega arith) k e.le };
}
floor-greatest a (negsuc b) h = record {
  not_above = record { le = turned-down a (down (neg_ℤ a) (suc b)) b (up-reached (neg_ℤ a) (suc b) (omega arith)) };
  greatest = λ k e. record { le = up-greatest (neg_ℤ a) (suc b) (omega arith) k (down-turned a k b e.le) };
}

le-antisym : (x y : ℤ) → T (le_z x y) → T (le_z y x) → x ≡ y
le-antisym (pos x) (pos y) h k = ap pos (let l = leb→le x y h in let m = leb→le y x k in omega arith)
le-antisym (pos x) (negsuc y) h k = absurd h
le-antisym (negsuc x) (pos y) h k = absurd k
le-antisym (negsuc x) (negsuc y) h k = ap negsuc (let l = leb→le y x h in let m = leb→le x y k in omega arith)

pub one-greatest : (a b q s : ℤ) → Greatest a b q → Greatest a b s → q ≡ s
one-greatest a b q s g h = le-antisym q s (h.greatest q g.not_above).le (g.greatest s h.not_above).le

-- ---- the two operations

left-other : (b r : ℤ) → Left b r → b ≢ pos 0
left-other b (pos r) (above h k) e = let z : r < 0 = ltb→lt r 0 (subst (λ (x : ℤ). T (lt_z (pos r) x)) e k.lt) in omega arith
left-other b (negsuc r) (above h k) e = h.le
left-other b (pos r) (below h k) e = let z = ltb→lt 0 r (subst (λ (x : ℤ). T (lt_z x (pos r))) e h.lt) in let w = leb→le r 0 k.le in omega arith
left-other b (negsuc r) (below h k) e = subst (λ (x : ℤ). T (lt_z x (negsuc r))) e h.lt

-- whatever divides is what the operations give, if it fits
pub quotient-is : (a b q r : ℤ) → Division a b q r → quotient_of a b ≡ exact q
unfolding quotient_of
quotient-is a b q r d = unless-other b (exact (floor_z a b)) (left-other b r d.left) ∙ ap exact (floor-is a b q r d)

pub remainder-is : (a b q r : ℤ) → Division a b q r → remainder_of a b ≡ exact r
unfolding remainder_of
remainder-is a b q r d = unless-other b (exact (mod_z a b)) (left-other b r d.left) ∙ ap exact (mod-is a b q r d)

-- what is left always fits
left-ranged : (b r : ℤ) → Left b r → InRange b → InRange r
left-ranged (pos b) (pos r) (above h k) i = pos-ranged r (omega (arith, ltb→lt r b k.lt, leb→le b (mag highest) i.high.le))
left-ranged (negsuc b) (pos r) (above h k) i = absurd k.lt
left-ranged b (negsuc r) (above h k) i = absurd h.le
left-ranged b (pos r) (below h k) i = pos-ranged r (omega (arith, leb→le r 0 k.le))
left-ranged (pos b) (negsuc r) (below h k) i = absurd h.lt
left-ranged (negsuc b) (negsuc r) (below h k) i = negsuc-ranged r (omega (arith, ltb→lt r b h.lt, leb→le b (mag lowest) i.low.le))

pub remainder-number : (a b q r : ℤ) → Division a b q r → InRange b → remainder_of a b ≡ Some r
remainder-number a b q r d i = remainder-is a b q r d ∙ exact-number (left-ranged b r d.left i)

-- where there is a quotient there is a remainder, and the two divide
pub record Divided (a b q : ℤ) : Type 0 where
  pub r : ℤ
  pub remainder : remainder_of a b ≡ Some r
  pub divides : Division a b q r

exact-is : (t : Bool) (z w : ℤ) → cond t (Some z) None ≡ Some w → z ≡ w
exact-is true z w e = cc
exact-is false z w e = absurd cc

quotient-cond : (t : Bool) (a b q : ℤ) → InRange b → equal b (pos 0) ≡ t → cond t None (exact (floor_z a b)) ≡ Some q → Divided a b q
unfolding exact
quotient-cond true a b q i z e = absurd cc
quotient-cond false a b q i z e =
    let other : b ≢ pos 0 = λ k. subst T (sym (ap (λ (x : ℤ). equal x (pos 0)) k) ∙ z) tt in
    let d = division a b other in
    record {
      r = mod_z a b;
      remainder = remainder-number a b (floor_z a b) (mod_z a b) d i;
      divides = subst (λ (x : ℤ). Division a b x (mod_z a b)) (exact-is (in_range (floor_z a b)) (floor_z a b) q e) d;
    }

pub quotient-remainder : (a b q : ℤ) → InRange b → quotient_of a b ≡ Some q → Divided a b q
unfolding quotient_of unless_zero
quotient-remainder a b q i e = quotient-cond (equal b (pos 0)) a b q i refl e

-- "The lowest number by -1 still has no quotient", and beside it only those by 0
down-ranged : (a : ℤ) (b : ℕ) → InRange a → InRange (down a b)
down-ranged (pos n) b i = pos-ranged (n / b) (omega (arith, div-le_self n b, leb→le n (mag highest) i.high.le))
down-ranged (negsuc n) b i = negsuc-ranged (n / b) (omega (arith, div-le_self n b, leb→le n (mag lowest) i.low.le))

halved : (n b : ℕ) → 0 < n → n / suc (suc b) < n
halved n b h = div-lt_self h (omega arith)

floor-ranged : (a b : ℤ) → InRange a → (a ≡ lowest → b ≡ negsuc 0 → ⊥) → InRange (floor_z a b)
unfolding floor_z
floor-ranged a (pos b) i h = down-ranged a b i
floor-ranged (pos zero) (negsuc b) i h = down-ranged (pos zero) (suc b) i
floor-ranged (pos (suc n)) (negsuc b) i h = down-ranged (negsuc n) (suc b) (negsuc-ranged n (omega (arith, leb→le (suc n) (mag highest) i.high.le)))
floor-ranged (negsuc n) (negsuc zero) i h =
    let other : n ≢ mag lowest = λ e. h (ap negsuc e) refl in
    pos-ranged (suc n / 1) (omega (arith, div-one (suc n), leb→le n (mag lowest) i.low.le))
floor-ranged (negsuc n) (negsuc (suc b)) i h =
    pos-ranged (suc n / suc (suc b)) (omega (arith, halved (suc n) b (omega arith), leb→le n (mag lowest) i.low.le))

pub every-quotient : (a b : ℤ) → InRange a → b ≢ pos 0 → (a ≡ lowest → b ≡ negsuc 0 → ⊥) → quotient_of a b ≡ Some (floor_z a b)
unfolding quotient_of
every-quotient a b i o h = unless-other b (exact (floor_z a b)) o ∙ exact-number (floor-ranged a b i h)

pub every-remainder : (a b : ℤ) → InRange b → b ≢ pos 0 → remainder_of a b ≡ Some (mod_z a b)
every-remainder a b i o = remainder-number a b (floor_z a b) (mod_z a b) (division a b o) i
