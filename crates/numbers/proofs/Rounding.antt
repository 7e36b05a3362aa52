-- How the code rounds down with a division that has no signs. By a divisor above 0 a number not below 0 is cut; one below 0 is mirrored, -1 to 0, -2 to 1,
-- then cut, and its quotient is mirrored back: that is `down`, clause by clause. By a divisor below 0 both signs are turned first: that is `floor_z`.
use mathlib.Core.Path.{◌≡◌, refl, sym, ap, ◌∙◌}
use mathlib.Core.Bool.{Bool, true, false, cond}
use Prim.Native.Nat.{ℕ, zero, suc, ◌/◌, ◌≤◌}
use native.Mathlib.Nat.{div-le_self}
use native.Mathlib.Omega.{arith}
use lib.IntN.{ℤ, pos, negsuc, neg_ℤ, nat_abs, ◌-ℤ◌, ◌*ℤ◌}
use lib.Signed.{mag, lt_z}
use mir.Syntax.{w32, w64}
use mir.Val.{SFits, to_z, of_z}
use mir.Facts.{to_z-of_z}
use borrow.Author.Tests.{le-ltb}
use Rattle.numbers.specs.Numbers.{exact, down, floor_z, mod_z}
use Rattle.numbers.proofs.Machine.{mag-negate, mag-sum, mag-prod, wide, wide-is}

-- x, with its sign turned where the divisor b is below 0
abbrev pub turn : ℤ → ℤ → ℤ
turn b x = cond (lt_z b (pos 0)) (neg_ℤ x) x

-- x, or what lies across from it
abbrev pub mirror : Bool → ℤ → ℤ
mirror across x = cond across (negsuc 0 -ℤ x) x

-- ---- what the turns give

above-zero : (n : ℕ) → lt_z (pos n) (pos 0) ≡ false
above-zero n = le-ltb n 0 (omega arith)

across-pos : (n : ℕ) → negsuc 0 -ℤ pos n ≡ negsuc n
across-pos zero = refl
across-pos (suc n) = ap negsuc (omega arith)

across-negsuc : (n : ℕ) → negsuc 0 -ℤ negsuc n ≡ pos n
across-negsuc n = simp (le-ltb (suc n) 1 (omega arith)) (ap pos (omega arith))

-- a dividend is mirrored where it is below 0: what is divided is not
pub dividend : (x : ℤ) → mirror (lt_z x (pos 0)) x ≡ pos (mag x)
dividend (pos n) = simp (above-zero n) refl
dividend (negsuc n) = across-negsuc n

-- its quotient, mirrored as it was
pub mirrored-back : (x : ℤ) (d : ℕ) → mirror (lt_z x (pos 0)) (pos (mag x / d)) ≡ down x d
mirrored-back (pos n) d = simp (above-zero n) refl
mirrored-back (negsuc n) d = across-pos (n / d)

pub floor-turned : (a b : ℤ) → floor_z a b ≡ down (turn b a) (nat_abs b)
unfolding floor_z
floor-turned a (pos n) = simp (above-zero n) refl
floor-turned a (negsuc n) = refl

-- ---- how large they are

turn-small : (b x : ℤ) → SFits w32 x → mag (turn b x) ≤ 2147483648
turn-small b x f = go (lt_z b (pos 0))
  where
    go : (t : Bool) → mag (cond t (neg_ℤ x) x) ≤ 2147483648
    go true = omega (arith, mag-negate x, f.sfits)
    go false = omega (arith, f.sfits)

mag-down : (x : ℤ) (d : ℕ) → mag (down x d) ≤ mag x
mag-down (pos n) d = div-le_self n d
mag-down (negsuc n) d = div-le_self n d

pub floor-small : (a b : ℤ) → SFits w32 a → mag (floor_z a b) ≤ 2147483648
floor-small a b f = rw (floor-turned a b) (omega (arith, mag-down (turn b a) (nat_abs b), turn-small b a f))

pub floor-fits : (a b : ℤ) → SFits w32 a → SFits w64 (floor_z a b)
floor-fits a b f = record { sfits = omega (arith, floor-small a b f) }

-- ---- the numbers that are divided, as the code holds them

abbrev read : ℤ → ℤ
read z = to_z w64 (of_z w64 z)

-- z is that number, and no more than 2 ^ 31
pub record Plain (z : ℤ) (n : ℕ) : Type 0 where
  pub is : z ≡ pos n
  pub small : n ≤ 2147483648

read-plain : {z : ℤ} {n : ℕ} → Plain z n → read z ≡ pos n
read-plain {z} {n} p = let f : SFits w64 (pos n) = record { sfits = omega (arith, p.small) } in ap read p.is ∙ to_z-of_z f

module _ {a b up : ℤ} (fa : SFits w32 a) (fb : SFits w32 b) (turned : up ≡ turn (to_z w32 (of_z w32 b)) (to_z w32 (of_z w32 a))) where
  up-is : up ≡ turn b a
  up-is = turned ∙ rw (to_z-of_z fa, to_z-of_z fb) refl

  read-up : read up ≡ turn b a
  read-up = let f : SFits w64 (turn b a) = record { sfits = omega (arith, turn-small b a fa) } in ap read up-is ∙ to_z-of_z f

  pub dividend-is : {m : ℤ} → m ≡ mirror (lt_z (read up) (pos 0)) (read up) → Plain m (mag (turn b a))
  dividend-is {m} e = record { is = e ∙ rw read-up (dividend (turn b a)); small = turn-small b a fa }

  pub floored : {q r : ℤ} → Plain q (mag (turn b a) / nat_abs b) → r ≡ mirror (lt_z (read up) (pos 0)) (read q) → read r ≡ floor_z a b
  floored {q} {r} p e =
      let is : r ≡ floor_z a b = e ∙ rw (read-up, read-plain p) (mirrored-back (turn b a) (nat_abs b)) ∙ sym (floor-turned a b) in
      ap read is ∙ to_z-of_z (floor-fits a b fa)

pub quotient-plain : {m : ℤ} {n d e : ℕ} → Plain m n → e ≡ d → Plain (pos (nat_abs (read m) / e)) (n / d)
quotient-plain {m} {n} {d} {e} p q = record { is = rw (read-plain p, q) refl; small = omega (arith, div-le_self n d, p.small) }

-- ---- the remainder, from the number that `floor` gave

module _ {a b q : ℤ} (fa : SFits w32 a) (fb : SFits w32 b) (e : q ≡ floor_z (to_z w32 (of_z w32 a)) (to_z w32 (of_z w32 b))) where
  read-floor : read q ≡ floor_z a b
  read-floor = let is : q ≡ floor_z a b = e ∙ rw (to_z-of_z fa, to_z-of_z fb) refl in ap read is ∙ to_z-of_z (floor-fits a b fa)

  times-small : mag (b *ℤ floor_z a b) ≤ 4611686022722355201
  times-small = mag-prod b (floor_z a b) (omega (arith, fb.sfits)) (floor-small a b fa)

  times-fits : SFits w64 (b *ℤ floor_z a b)
  times-fits = record { sfits = omega (arith, times-small) }

  pub product-fits : SFits w64 (wide b *ℤ read q)
  product-fits = rw (wide-is fb, read-floor) times-fits

  left-fits : SFits w64 (a -ℤ b *ℤ floor_z a b)
  left-fits =
      let times = b *ℤ floor_z a b in
      record { sfits = omega (arith, mag-sum a (neg_ℤ times), mag-negate times, fa.sfits, times-small) }

  read-product : read (wide b *ℤ read q) ≡ b *ℤ floor_z a b
  read-product = rw (wide-is fb, read-floor) (to_z-of_z times-fits)

  pub rest-fits : SFits w64 (wide a -ℤ read (wide b *ℤ read q))
  rest-fits = rw (wide-is fa, read-product) left-fits

  pub remainder-exact : exact (read (wide a -ℤ read (wide b *ℤ read q))) ≡ exact (mod_z a b)
  unfolding mod_z
  remainder-exact = ap exact (rw (wide-is fa, read-product) (to_z-of_z left-fits))
