-- Blanks, digits, and letters and digits, by their numbers: from the number to the test and back.
use Prim.Native.Nat.{ℕ, ◌≤◌, ◌<◌}
use native.Mathlib.Omega.{arith}
use mathlib.Core.Path.{◌≡◌, refl, sym}
use mathlib.Core.Logic.{◌⊎◌, inl, inr}
use mathlib.Core.Bool.{Bool, true, false, ◌&&◌, ◌||◌}
use lib.Dec.{leb}
use borrow.Author.Tests.{leb-true, le-leb, lt-leb, ne_eqb}
use Rattle.text.specs.Spelling.{is_blank, is_digit, is_word_byte}

-- ---- tests

pub no-test : {X : Type 0} → true ≡ false → X
no-test e = absurd (let z : ◌≡◌ {A = ℕ} 0 1 = cc in omega arith)

pub and-left : (a b : Bool) → a && b ≡ true → a ≡ true
and-left true b e = refl
and-left false b e = no-test (sym e)

pub and-right : (a b : Bool) → a && b ≡ true → b ≡ true
and-right true b e = e
and-right false b e = no-test (sym e)

pub or-cases : (a b : Bool) → a || b ≡ true → (a ≡ true) ⊎ (b ≡ true)
or-cases true b e = inl refl
or-cases false b e = inr e

-- whether a byte lies from l to h
within-true : (l h b : ℕ) → l ≤ b → b ≤ h → leb l b && leb b h ≡ true
within-true l h b p q = rw (le-leb l b p, le-leb b h q)

within-below : (l h b : ℕ) → b < l → leb l b && leb b h ≡ false
within-below l h b p = rw (lt-leb l b p)

within-above : (l h b : ℕ) → h < b → leb l b && leb b h ≡ false
within-above l h b p = go (leb l b) (lt-leb b h p)
  where
    go : (t : Bool) → leb b h ≡ false → t && leb b h ≡ false
    go true e = e
    go false e = refl

-- ---- digits

module _ (b : ℕ) where
  pub digit-is : 48 ≤ b → b ≤ 57 → is_digit b ≡ true
  unfolding is_digit
  digit-is p q = within-true 48 57 b p q

  pub digit-below : b < 48 → is_digit b ≡ false
  unfolding is_digit
  digit-below p = within-below 48 57 b p

  pub digit-above : 57 < b → is_digit b ≡ false
  unfolding is_digit
  digit-above p = within-above 48 57 b p

  pub digit-low : is_digit b ≡ true → 48 ≤ b
  unfolding is_digit
  digit-low e = leb-true 48 b (and-left (leb 48 b) (leb b 57) e)

  pub digit-high : is_digit b ≡ true → b ≤ 57
  unfolding is_digit
  digit-high e = leb-true b 57 (and-right (leb 48 b) (leb b 57) e)

  -- ---- letters and digits

  pub word-digit : 48 ≤ b → b ≤ 57 → is_word_byte b ≡ true
  unfolding is_word_byte
  word-digit p q = rw (within-true 48 57 b p q)

  pub word-upper : 65 ≤ b → b ≤ 90 → is_word_byte b ≡ true
  unfolding is_word_byte
  word-upper p q = rw (within-above 48 57 b (omega arith), within-true 65 90 b p q)

  pub word-lower : 97 ≤ b → b ≤ 122 → is_word_byte b ≡ true
  unfolding is_word_byte
  word-lower p q = rw (within-above 48 57 b (omega arith), within-above 65 90 b (omega arith), within-true 97 122 b p q)

  pub no-word-below : b < 48 → is_word_byte b ≡ false
  unfolding is_word_byte
  no-word-below p = rw (within-below 48 57 b p, within-below 65 90 b (omega arith), within-below 97 122 b (omega arith))

  pub no-word-between : 57 < b → b < 65 → is_word_byte b ≡ false
  unfolding is_word_byte
  no-word-between p q = rw (within-above 48 57 b p, within-below 65 90 b q, within-below 97 122 b (omega arith))

  pub no-word-among : 90 < b → b < 97 → is_word_byte b ≡ false
  unfolding is_word_byte
  no-word-among p q = rw (within-above 48 57 b (omega arith), within-above 65 90 b p, within-below 97 122 b q)

  pub no-word-above : 122 < b → is_word_byte b ≡ false
  unfolding is_word_byte
  no-word-above p = rw (within-above 48 57 b (omega arith), within-above 65 90 b (omega arith), within-above 97 122 b p)

  pub digit-word : is_digit b ≡ true → is_word_byte b ≡ true
  digit-word e = word-digit (digit-low e) (digit-high e)

  pub word-some : is_word_byte b ≡ true → 48 ≤ b
  unfolding is_word_byte
  word-some e = go (or-cases (leb 48 b && leb b 57) _ e)
    where
      letters : (leb 65 b && leb b 90 ≡ true) ⊎ (leb 97 b && leb b 122 ≡ true) → 48 ≤ b
      letters (inl h) = omega (arith, leb-true 65 b (and-left (leb 65 b) (leb b 90) h))
      letters (inr h) = omega (arith, leb-true 97 b (and-left (leb 97 b) (leb b 122) h))

      go : (leb 48 b && leb b 57 ≡ true) ⊎ ((leb 65 b && leb b 90) || (leb 97 b && leb b 122) ≡ true) → 48 ≤ b
      go (inl h) = leb-true 48 b (and-left (leb 48 b) (leb b 57) h)
      go (inr h) = letters (or-cases (leb 65 b && leb b 90) (leb 97 b && leb b 122) h)

  -- ---- blanks

  pub no-blank : (b ≡ 32 → ⊥) → (b ≡ 10 → ⊥) → (b ≡ 13 → ⊥) → is_blank b ≡ false
  unfolding is_blank
  no-blank p q r = rw (ne_eqb b 32 p, ne_eqb b 10 q, ne_eqb b 13 r)

  pub word-no-blank : is_word_byte b ≡ true → is_blank b ≡ false
  word-no-blank e = let h = word-some e in no-blank (omega arith) (omega arith) (omega arith)
