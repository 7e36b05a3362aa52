-- Digits read one by one: what they say so far, and what is left.
use Prim.Native.Nat.{ℕ, zero, suc, ◌+◌, ◌-◌, ◌*◌, ◌≤◌, ◌<◌}
use native.Mathlib.Omega.{arith, not-le}
use mathlib.Core.Path.{◌≡◌, refl, sym, ◌∙◌}
use mathlib.Core.Bool.{Bool, true, false, cond, ◌&&◌}
use mathlib.Core.List.{List, [], ◌∷◌}
use lib.Dec.{leb, ltb}
use lib.ListN.{length, get_or, drop, drop_of_length-le}
use lib.Seq.{drop-cons}
use native.Mathlib.Numerals.{add-one}
use borrow.Author.Tests.{le-leb, lt-leb, leb-true, leb-false, lt-ltb}
use Rattle.std.specs.Prelude.{Option, Some, None}
use Rattle.std.specs.Char.{is_ascii_digit}
use lib.IntN.{ℤ, pos}
use mir.Syntax.{w32}
use mir.Val.{SFits}
use Rattle.std.specs.Prelude.{Result, Ok, Err}
use Rattle.std.specs.Result.{OkIff, result_ok}
use Rattle.text.proofs.Bytes.{digit-word}
use Rattle.text.specs.Spelling.{is_digit, is_word_byte, digits, value_from, value, constant_of, negated}
use Rattle.std.specs.Option.{SomeIff}
use lib.IntN.{◌-ℤ◌}
use Rattle.grammar.specs.Tree.{constant}
use Rattle.text.specs.Token.{slot}
use Rattle.text.specs.Spelling.{run, negative, found, nothing}
use Rattle.tokens.specs.declared.Spelled.{Spelled}
use Rattle.tokens.specs.Views.{found_of}
use Rattle.tokens.proofs.SignReads.{and-false}
use Rattle.tokens.proofs.WordReads.{run-end, run-skips, run-stops}
use Rattle.tokens.specs.Numerals.{magnitude_of}

abbrev pub most : ℕ
most = 4294967295

-- what the bytes say behind v, which the i bytes before them say
unfoldable pub magnitude_from : ℕ → ℕ → List ℕ → Option (ℕ × ℕ)
magnitude_from v i [] = Some (v, i)
magnitude_from v i (b ∷ bs) =
    cond (is_digit b) (cond (leb (10 * v + (b - 48)) most) (magnitude_from (10 * v + (b - 48)) (i + 1) bs) None) (cond (is_word_byte b) None (Some (v, i)))

grows : (v n : ℕ) (bs : List ℕ) → v ≤ value_from v n bs
unfolding value_from
grows v zero bs = omega arith
grows v (suc n) [] = omega arith
grows v (suc n) (b ∷ bs) = omega (arith, grows (10 * v + (b - 48)) n bs)

-- the same, of n bytes
abbrev said_by : ℕ → ℕ → ℕ → List ℕ → Option (ℕ × ℕ)
said_by v i n bs = cond (digits n bs && leb (value_from v n bs) most) (Some (value_from v n bs, i + n)) None

from-is : (v i : ℕ) (bs : List ℕ) → v ≤ most → magnitude_from v i bs ≡ said_by v i (run bs) bs
unfolding magnitude_from digits value_from
from-is v i [] h = let same : i + 0 ≡ i = omega arith in rw (run-end, le-leb v most h, same)
from-is v i (b ∷ bs) h = go (is_digit b) (is_word_byte b) (leb (10 * v + (b - 48)) most) refl refl refl (from-is (10 * v + (b - 48)) (i + 1) bs)
  where
    go : (d w l : Bool) → is_digit b ≡ d → is_word_byte b ≡ w → leb (10 * v + (b - 48)) most ≡ l
        → (10 * v + (b - 48) ≤ most → magnitude_from (10 * v + (b - 48)) (i + 1) bs ≡ said_by (10 * v + (b - 48)) (i + 1) (run bs) bs)
        → magnitude_from v i (b ∷ bs) ≡ said_by v i (run (b ∷ bs)) (b ∷ bs)
    go false true l e f g ih = rw (run-skips b bs f, e, f)
    go false false l e f g ih = let same : i + 0 ≡ i = omega arith in rw (run-stops b bs f, e, f, le-leb v most h, same)
    go true w true e f g ih =
        let step : i + suc (run bs) ≡ i + 1 + run bs = omega arith in
        rw (run-skips b bs (digit-word b e), e, g, step) (ih (leb-true (10 * v + (b - 48)) most g))
    go true w false e f g ih =
        let large : most < value_from (10 * v + (b - 48)) (run bs) bs =
        omega (arith, grows (10 * v + (b - 48)) (run bs) bs, leb-false (10 * v + (b - 48)) most g) in
        rw (run-skips b bs (digit-word b e), e, g, lt-leb (value_from (10 * v + (b - 48)) (run bs) bs) most large, and-false)

pub magnitude_begins : (bs : List ℕ) → magnitude_from 0 0 bs ≡ magnitude_of (run bs) bs
unfolding magnitude_of value
magnitude_begins bs = let same : 0 + run bs ≡ run bs = omega arith in from-is 0 0 bs (omega arith) ∙ rw same

module _ (bs : List ℕ) (i v : ℕ) (inside : i < length bs) (so_far : magnitude_from v i (drop i bs) ≡ magnitude_of (run bs) bs) where
  next : magnitude_of (run bs) bs
      ≡ cond (is_digit (get_or bs i 0))
      (cond (leb (10 * v + (get_or bs i 0 - 48)) most) (magnitude_from (10 * v + (get_or bs i 0 - 48)) (i + 1) (drop (i + 1) bs)) None)
      (cond (is_word_byte (get_or bs i 0)) None (Some (v, i)))
  unfolding magnitude_from
  next = sym so_far ∙ rw (drop-cons bs i 0 inside, add-one i)

  module _ (other : false ≡ is_ascii_digit (get_or bs i 0)) where
    pub letter : true ≡ is_word_byte (get_or bs i 0) → None ≡ magnitude_of (run bs) bs
    unfolding is_digit
    letter e = sym (next ∙ rw (← other, ← e))

    pub ended : false ≡ is_word_byte (get_or bs i 0) → Some (v, i) ≡ magnitude_of (run bs) bs
    unfolding is_digit
    ended e = sym (next ∙ rw (← other, ← e))

  module _ (digit : true ≡ is_ascii_digit (get_or bs i 0)) where
    pub too_large : most < 10 * v + (get_or bs i 0 - 48) → None ≡ magnitude_of (run bs) bs
    unfolding is_digit
    too_large l = sym (next ∙ rw (← digit, lt-leb (10 * v + (get_or bs i 0 - 48)) most l))

    pub one_more : {n : ℕ} → n ≡ 10 * v + (get_or bs i 0 - 48) → n ≤ most → magnitude_from n (i + 1) (drop (i + 1) bs) ≡ magnitude_of (run bs) bs
    unfolding is_digit
    one_more {n} same l = sym (next ∙ rw (← same, ← digit, le-leb n most l))

pub all_read : (bs : List ℕ) (i v : ℕ) → i ≡ length bs → magnitude_from v i (drop i bs) ≡ magnitude_of (run bs) bs
    → Some (v, length bs) ≡ magnitude_of (run bs) bs
unfolding magnitude_from
all_read bs i v is e = let h : length bs ≤ i = omega (arith, is) in rw (drop_of_length-le bs h, is) at e

-- ---- constants

-- no number up to `limit` is said, where none up to `most` is
module _ (n : ℕ) (ds : List ℕ) (limit : ℕ) (h : limit ≤ most) where
  said-none : None ≡ magnitude_of n ds → (digits n ds && leb (value n ds) limit) ≡ false
  unfolding magnitude_of
  said-none e = go (digits n ds) (leb (value n ds) most) refl refl
    where
      go : (d l : Bool) → digits n ds ≡ d → leb (value n ds) most ≡ l → (digits n ds && leb (value n ds) limit) ≡ false
      go false l p q = rw p
      go true false p q = rw (p, lt-leb (value n ds) limit (omega (arith, leb-false (value n ds) most q)))
      go true true p q = absurd (let z : ◌≡◌ {A = Option (ℕ × ℕ)} None (Some (value n ds, n)) = rw (p, q) at e in cc)

  module _ {p : ℕ × ℕ} (e : Some p ≡ magnitude_of n ds) where
    said : (digits n ds && leb (value n ds) limit) ≡ leb p.0 limit
    unfolding magnitude_of
    said = go (digits n ds) (leb (value n ds) most) refl refl
      where
        go : (d l : Bool) → digits n ds ≡ d → leb (value n ds) most ≡ l → (digits n ds && leb (value n ds) limit) ≡ leb p.0 limit
        go false l f g = absurd (let z : ◌≡◌ {A = Option (ℕ × ℕ)} (Some p) None = rw f at e in cc)
        go true false f g = absurd (let z : ◌≡◌ {A = Option (ℕ × ℕ)} (Some p) None = rw (f, g) at e in cc)
        go true true f g =
            let v : p ≡ (value n ds, n) = (let z : ◌≡◌ {A = Option (ℕ × ℕ)} (Some p) (Some (value n ds, n)) = rw (f, g) at e in cc) in rw (f, v)

    said-is : (p.0 ≡ value n ds) × (p.1 ≡ n)
    unfolding magnitude_of
    said-is = go (digits n ds && leb (value n ds) most) refl
      where
        go : (t : Bool) → (digits n ds && leb (value n ds) most) ≡ t → (p.0 ≡ value n ds) × (p.1 ≡ n)
        go true f =
            let v : p ≡ (value n ds, n) = (let z : ◌≡◌ {A = Option (ℕ × ℕ)} (Some p) (Some (value n ds, n)) = rw f at e in cc) in (rw v, rw v)
        go false f = absurd (let z : ◌≡◌ {A = Option (ℕ × ℕ)} (Some p) None = rw f at e in cc)

module _ (bs : List ℕ) where
  pub no_constant : {r : Option Spelled} → r ≡ None → None ≡ magnitude_of (run bs) bs → found_of r ≡ constant_of (run bs) bs
  unfolding constant_of
  no_constant gone e = rw (gone, said-none (run bs) bs 2147483647 (omega arith) e)

  module _ {m k : ℕ} (e : Some (m, k) ≡ magnitude_of (run bs) bs) {E : Type 0} where
    pub too_high : {r : Option Spelled} (x : Result ℤ E) → r ≡ None → None ≡ result_ok x → OkIff x (SFits w32 (pos m)) (pos m)
        → found_of r ≡ constant_of (run bs) bs
    unfolding constant_of
    too_high (Ok z) gone n f = absurd (let z' : ◌≡◌ {A = Option ℤ} None (Some z) = n in cc)
    too_high (Err d) gone n none =
        rw (
          gone,
          said (run bs) bs 2147483647 (omega arith) e,
          lt-leb m 2147483647 (not-le m 2147483647 (λ (l : m ≤ 2147483647). none (record { sfits = omega arith }))),
        )

    pub a_constant : {z : ℤ} (x : Result ℤ E) → Some z ≡ result_ok x → OkIff x (SFits w32 (pos m)) (pos m)
        → found (slot (constant z)) k ≡ constant_of (run bs) bs
    unfolding constant_of
    a_constant {z} (Ok y) same (fits, is) =
        let v = said-is (run bs) bs 0 (omega arith) e in
        let t : z ≡ y = (let s : ◌≡◌ {A = Option ℤ} (Some z) (Some y) = same in cc) in
        rw (said (run bs) bs 2147483647 (omega arith) e, le-leb m 2147483647 (omega (arith, fits)), t, is, v.0, v.1)
    a_constant {z} (Err d) same f = absurd (let s : ◌≡◌ {A = Option ℤ} (Some z) None = same in cc)

-- ---- behind a minus

zero-less : (n : ℕ) → pos 0 -ℤ pos n ≡ negative n
unfolding negative
zero-less zero = refl
zero-less (suc n) =
    let under : ltb 0 (suc n) ≡ true = lt-ltb 0 (suc n) (omega arith) in
    let less : suc n - 1 ≡ n = omega arith in
    rw (under, less)

negative-fits : (n : ℕ) → n ≤ 2147483648 → SFits w32 (negative n)
unfolding negative
negative-fits zero h = record { sfits = omega arith }
negative-fits (suc n) h = record { sfits = omega arith }

fits-negative : (n : ℕ) → SFits w32 (negative n) → n ≤ 2147483648
unfolding negative
fits-negative zero f = omega arith
fits-negative (suc n) f = omega (arith, f)

module _ (bs : List ℕ) where
  pub no_negative : {r : Option Spelled} → r ≡ None → None ≡ magnitude_of (run bs) bs → found_of r ≡ negated (run bs) bs
  unfolding negated
  no_negative gone e = rw (gone, said-none (run bs) bs 2147483648 (omega arith) e, and-false)

  module _ {m k : ℕ} (e : Some (m, k) ≡ magnitude_of (run bs) bs) where
    long : k ≡ run bs
    long = let v = said-is (run bs) bs 0 (omega arith) e in v.1

    pub no_run : k ≡ 0 → nothing ≡ negated (run bs) bs
    unfolding negated
    no_run z = let none : run bs ≡ 0 = sym long ∙ z in rw none

    module _ (some : k ≡ 0 → ⊥) where
      begun : leb 1 (run bs) ≡ true
      begun = le-leb 1 (run bs) (omega (arith, some, long))

      pub too_low : {r : Option Spelled} {x : Option ℤ} → r ≡ None → None ≡ x → SomeIff x (SFits w32 (pos 0 -ℤ pos m)) (pos 0 -ℤ pos m)
          → found_of r ≡ negated (run bs) bs
      unfolding negated
      too_low gone e' f =
          let none : SFits w32 (negative m) → ⊥ = rw (← e', zero-less m) at f in
          let low = not-le m 2147483648 (λ (l : m ≤ 2147483648). none (negative-fits m l)) in
          rw (gone, begun, said (run bs) bs 2147483648 (omega arith) e, lt-leb m 2147483648 low)

      pub a_negative : {z : ℤ} {x : Option ℤ} → Some z ≡ x → SomeIff x (SFits w32 (pos 0 -ℤ pos m)) (pos 0 -ℤ pos m)
          → found (slot (constant z)) (k + 1) ≡ negated (run bs) bs
      unfolding negated
      a_negative {z} e' f =
          let fits : SFits w32 (negative m) × (z ≡ negative m) = rw (← e', zero-less m) at f in
          let v = said-is (run bs) bs 0 (omega arith) e in
          rw (begun, said (run bs) bs 2147483648 (omega arith) e, le-leb m 2147483648 (fits-negative m fits.0), fits.1, v.0, v.1, add-one (run bs))

pub ruleset constant_rules = (no_constant, too_high, a_constant)

pub ruleset negated_rules = (no_run, no_negative, too_low, a_negative)
