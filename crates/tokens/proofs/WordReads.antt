-- Words: where their run ends, and the index behind `s` or `V`.
use Prim.Native.Nat.{ℕ, zero, suc, ◌+◌, ◌-◌, ◌*◌, ◌≤◌, ◌<◌}
use native.Mathlib.Omega.{arith}
use mathlib.Core.Path.{◌≡◌, refl, sym, ◌∙◌}
use mathlib.Core.Bool.{Bool, true, false, cond, not, ◌&&◌}
use mathlib.Core.List.{List, [], ◌∷◌}
use lib.Dec.{leb, ltb, eqb}
use lib.ListN.{length, get_or, take, drop}
use borrow.Author.Tests.{le-leb, lt-leb, lt-ltb, le-ltb, ltb-false, leb-true, leb-false, eqb-true, ne_eqb}
use Rattle.std.specs.Prelude.{position, Option, Some, None}
use Rattle.std.specs.List.{position_or_len}
use Rattle.std.specs.Option.{unwrap_or}
use Rattle.std.proofs.Math.Option as definition
use Rattle.std.proofs.Math.Option.{none}
use lib.Seq.{length-take-le, take-length}
use lib.IntN.{ℤ}
use Rattle.std.proofs.lemmas.Slice.Eq.{text_from_reads}
use Rattle.grammar.specs.Tree.{constant, variable}
use Rattle.text.specs.Token.{Token, symbol, slot, mark, true_word, fail_word}
use Rattle.text.specs.Spelling.{is_digit, is_word_byte, run, digits, value, value_from, index_of, constant_of, begins, indexed, keyword, word, found, nothing}
use Rattle.tokens.specs.declared.Spelled.{Spelled}
use Rattle.tokens.specs.Views.{found_of, index_found}
use Rattle.tokens.proofs.SignReads.{and-true, and-false}
use Rattle.text.proofs.Bytes.{digit-is, digit-low, digit-high, digit-word, and-left, and-right}

-- ---- the run

abbrev pub ends_run : ℕ → Bool
ends_run b = not (is_word_byte b)

run-position : (bs : List ℕ) → position_or_len ends_run bs ≡ run bs
unfolding run
run-position [] = refl
run-position (b ∷ bs) = go (is_word_byte b) refl (run-position bs)
  where
    go : (t : Bool) → is_word_byte b ≡ t → position_or_len ends_run bs ≡ run bs → position_or_len ends_run (b ∷ bs) ≡ run (b ∷ bs)
    go true e ih = rw e (omega (arith, ih))
    go false e ih = rw e

pub run_within : (bs : List ℕ) → run bs ≤ length bs
unfolding run
run_within [] = omega arith
run_within (b ∷ bs) = go (is_word_byte b) refl (run_within bs)
  where
    go : (t : Bool) → is_word_byte b ≡ t → run bs ≤ length bs → run (b ∷ bs) ≤ length (b ∷ bs)
    go true e ih = rw e (omega arith)
    go false e ih = rw e (omega arith)

pub run_is : (bs : List ℕ) → unwrap_or (position ends_run bs) (length bs) ≡ run bs
run_is bs = rw (run-position bs) (go (ltb (run bs) (length bs)) refl)
  where
    go : (t : Bool) → ltb (run bs) (length bs) ≡ t → unwrap_or (cond (ltb (run bs) (length bs)) (Some (run bs)) None) (length bs) ≡ run bs
    go true e = rw e
    go false e = rw e (omega (arith, run_within bs, ltb-false (run bs) (length bs) e))

pub run-end : run [] ≡ 0
unfolding run
run-end = refl

pub run-skips : (b : ℕ) (bs : List ℕ) → is_word_byte b ≡ true → run (b ∷ bs) ≡ suc (run bs)
unfolding run
run-skips b bs e = rw e

pub run-stops : (b : ℕ) (bs : List ℕ) → is_word_byte b ≡ false → run (b ∷ bs) ≡ 0
unfolding run
run-stops b bs e = rw e

-- ---- an index

no-digit : (b : ℕ) → (48 ≤ b → b < 58 → ⊥) → is_digit b ≡ false
no-digit b h = go (is_digit b) refl
  where
    go : (t : Bool) → is_digit b ≡ t → is_digit b ≡ false
    go true e = absurd (h (digit-low b e) (omega (arith, digit-high b e)))
    go false e = e

-- a slice behind the first k bytes, as the code has it
abbrev from : ℕ → List ℕ → List ℕ
from k bs = take (length bs - k) (drop k bs)

from-is : (k : ℕ) (bs : List ℕ) → from k bs ≡ drop k bs
from-is zero bs = let less : length bs - 0 ≡ length bs = omega arith in rw (less, take-length bs)
from-is (suc k) [] = let none : 0 - suc k ≡ 0 = omega arith in rw none
from-is (suc k) (b ∷ bs) = let less : suc (length bs) - suc k ≡ length bs - k = omega arith in rw less (from-is k bs)

-- the index i of a word of n bytes, where no bytes of the word are left
abbrev ends : ℕ → ℕ → ℕ → ℕ → Option (ℕ × ℕ)
ends i n most left = cond (leb i most && not (ltb 0 left)) (Some (i, n)) None

ends-none : (i n most left : ℕ) → 0 < left → ends i n most left ≡ None
ends-none i n most left h = rw (lt-ltb 0 left h, and-false (leb i most))

module _ (most : ℕ) where
  too-long : (n : ℕ) (bs : List ℕ) → 2 < n → index_of most n bs ≡ none
  unfolding index_of
  too-long n bs h = rw (lt-leb n 2 h, and-false (leb 1 n))

  no-digits : (n : ℕ) (bs : List ℕ) → digits n bs ≡ false → index_of most n bs ≡ none
  unfolding index_of
  no-digits n bs e = rw (e, and-false (leb n 2), and-false (leb 1 n))

  no-bytes : (bs : List ℕ) → index_of most 0 bs ≡ none
  unfolding index_of
  no-bytes bs = refl

  one-ends : (a : ℕ) (bs : List ℕ) → is_digit a ≡ true → index_found 2 (index_of most 1 (a ∷ bs)) ≡ ends (a - 48) 2 most 0
  unfolding index_of digits value value_from
  one-ends a bs d = let v : 10 * 0 + (a - 48) ≡ a - 48 = omega arith in rw (d, v) (up (leb (a - 48) most))
    where
      up : (t : Bool) → index_found 2 (cond t (definition.some (a - 48)) none) ≡ cond (t && true) (Some (a - 48, 2)) None
      up true = refl
      up false = refl

  zero-first : (a b : ℕ) (bs : List ℕ) → is_digit a ≡ true → (49 ≤ a → is_digit b ≡ true → ⊥) → index_of most 2 (a ∷ b ∷ bs) ≡ none
  unfolding index_of digits value value_from
  zero-first a b bs d other = go (is_digit b) (leb 49 a) refl refl
    where
      go : (p q : Bool) → is_digit b ≡ p → leb 49 a ≡ q → index_of most 2 (a ∷ b ∷ bs) ≡ none
      go false q f g = rw (d, f)
      go true true f g = absurd (other (leb-true 49 a g) f)
      go true false f g =
          let less : a < 49 = leb-false 49 a g in
          let high : b ≤ 57 = digit-high b f in
          let small : ltb (10 * (10 * 0 + (a - 48)) + (b - 48)) 10 ≡ true = lt-ltb (10 * (10 * 0 + (a - 48)) + (b - 48)) 10 (omega arith) in
          rw (d, f, small)

  two-end : (a b : ℕ) (bs : List ℕ) → 49 ≤ a → is_digit a ≡ true → is_digit b ≡ true
      → index_found 3 (index_of most 2 (a ∷ b ∷ bs)) ≡ ends (10 * (a - 48) + (b - 48)) 3 most 0
  unfolding index_of digits value value_from
  two-end a b bs l d e =
      let v : 10 * (10 * 0 + (a - 48)) + (b - 48) ≡ 10 * (a - 48) + (b - 48) = omega arith in
      rw (d, e, v, le-ltb (10 * (a - 48) + (b - 48)) 10 (omega arith)) (up (leb (10 * (a - 48) + (b - 48)) most))
    where
      up : (t : Bool) → index_found 3 (cond t (definition.some (10 * (a - 48) + (b - 48))) none) ≡ cond (t && true) (Some (10 * (a - 48) + (b - 48), 3)) None
      up true = refl
      up false = refl

  one-digit : (a : ℕ) (bs : List ℕ) → is_digit a ≡ true → (1 ≤ length bs → 49 ≤ a → is_digit (get_or bs 0 0) ≡ true → ⊥)
      → index_found (suc (run (a ∷ bs))) (index_of most (run (a ∷ bs)) (a ∷ bs)) ≡ ends (a - 48) 2 most (run bs)
  one-digit a bs d one = rw (run-skips a bs (digit-word a d)) (go bs (run bs) refl one)
    where
      go : (bs : List ℕ) (n : ℕ) → run bs ≡ n → (1 ≤ length bs → 49 ≤ a → is_digit (get_or bs 0 0) ≡ true → ⊥)
          → index_found (suc (suc n)) (index_of most (suc n) (a ∷ bs)) ≡ ends (a - 48) 2 most n
      go bs zero e one = one-ends a bs d
      go [] (suc n) e one = absurd (omega (arith, run_within [], e))
      go (b ∷ bs) (suc zero) e one = rw (zero-first a b bs d (one (omega arith)), ends-none (a - 48) 2 most 1 (omega arith))
      go (b ∷ bs) (suc (suc n)) e one =
          rw (too-long (suc (suc (suc n))) (a ∷ b ∷ bs) (omega arith), ends-none (a - 48) 2 most (suc (suc n)) (omega arith))

  two-digits : (a b : ℕ) (bs : List ℕ) → 49 ≤ a → is_digit a ≡ true → is_digit b ≡ true
      → index_found (suc (run (a ∷ b ∷ bs))) (index_of most (run (a ∷ b ∷ bs)) (a ∷ b ∷ bs)) ≡ ends (10 * (a - 48) + (b - 48)) 3 most (run bs)
  two-digits a b bs l d e = rw (run-skips a (b ∷ bs) (digit-word a d), run-skips b bs (digit-word b e)) (go (run bs))
    where
      go : (n : ℕ) → index_found (suc (suc (suc n))) (index_of most (suc (suc n)) (a ∷ b ∷ bs)) ≡ ends (10 * (a - 48) + (b - 48)) 3 most n
      go zero = two-end a b bs l d e
      go (suc n) =
          rw (too-long (suc (suc (suc n))) (a ∷ b ∷ bs) (omega arith), ends-none (10 * (a - 48) + (b - 48)) 3 most (suc n) (omega arith))

  module _ (bs : List ℕ) where
    pub no_index : (1 ≤ length bs → 48 ≤ get_or bs 0 0 → get_or bs 0 0 < 58 → ⊥) → None ≡ index_found (suc (run bs)) (index_of most (run bs) bs)
    unfolding digits
    no_index h = sym (go bs (run bs) h)
      where
        go : (bs : List ℕ) (n : ℕ) → (1 ≤ length bs → 48 ≤ get_or bs 0 0 → get_or bs 0 0 < 58 → ⊥) → index_found (suc n) (index_of most n bs) ≡ None
        go bs zero h = rw (no-bytes bs)
        go [] (suc n) h = rw (no-digits (suc n) [] refl)
        go (b ∷ bs) (suc n) h = let no : digits (suc n) (b ∷ bs) ≡ false = rw (no-digit b (h (omega arith))) in rw (no-digits (suc n) (b ∷ bs) no)

    module _ {r : Option (ℕ × ℕ)} {i : ℕ} where
      pub ones_index : 1 ≤ length bs → 48 ≤ get_or bs 0 0 → get_or bs 0 0 < 58
          → (2 ≤ length bs → 49 ≤ get_or bs 0 0 → get_or bs 0 0 < 58 → 48 ≤ get_or bs 1 0 → get_or bs 1 0 < 58 → ⊥)
          → i ≡ get_or bs 0 0 - 48 → r ≡ ends i 2 most (run (from 1 bs)) → r ≡ index_found (suc (run bs)) (index_of most (run bs) bs)
      ones_index some l h two is e = e ∙ rw (is, from-is 1 bs) (sym (go bs some l h two))
        where
          go : (bs : List ℕ) → 1 ≤ length bs → 48 ≤ get_or bs 0 0 → get_or bs 0 0 < 58
              → (2 ≤ length bs → 49 ≤ get_or bs 0 0 → get_or bs 0 0 < 58 → 48 ≤ get_or bs 1 0 → get_or bs 1 0 < 58 → ⊥)
              → index_found (suc (run bs)) (index_of most (run bs) bs) ≡ ends (get_or bs 0 0 - 48) 2 most (run (drop 1 bs))
          go [] some l h two = absurd (omega arith)
          go (a ∷ bs) some l h two =
              one-digit a bs (digit-is a l (omega arith))
              (λ (s : 1 ≤ length bs) (g : 49 ≤ a) (f : is_digit (get_or bs 0 0) ≡ true).
              two (omega arith) g h (digit-low (get_or bs 0 0) f) (omega (arith, digit-high (get_or bs 0 0) f)))

      pub tens_index : 2 ≤ length bs → 49 ≤ get_or bs 0 0 → get_or bs 0 0 < 58 → 48 ≤ get_or bs 1 0 → get_or bs 1 0 < 58
          → i ≡ 10 * (get_or bs 0 0 - 48) + (get_or bs 1 0 - 48) → r ≡ ends i 3 most (run (from 2 bs))
          → r ≡ index_found (suc (run bs)) (index_of most (run bs) bs)
      tens_index some l h m k is e = e ∙ rw (is, from-is 2 bs) (sym (go bs some l h m k))
        where
          go : (bs : List ℕ) → 2 ≤ length bs → 49 ≤ get_or bs 0 0 → get_or bs 0 0 < 58 → 48 ≤ get_or bs 1 0 → get_or bs 1 0 < 58
              → index_found (suc (run bs)) (index_of most (run bs) bs) ≡ ends (10 * (get_or bs 0 0 - 48) + (get_or bs 1 0 - 48)) 3 most (run (drop 2 bs))
          go [] some l h m k = absurd (omega arith)
          go (a ∷ []) some l h m k = absurd (omega arith)
          go (a ∷ b ∷ bs) some l h m k = two-digits a b bs l (digit-is a (omega arith) (omega arith)) (digit-is b m (omega arith))

-- ---- whether a run goes on

-- the first byte is there
first-run : (bs : List ℕ) → 1 ≤ length bs → ltb 0 (run bs) ≡ is_word_byte (get_or bs 0 0)
first-run [] h = absurd (omega arith)
first-run (b ∷ bs) h = go (is_word_byte b) refl
  where
    go : (t : Bool) → is_word_byte b ≡ t → ltb 0 (run (b ∷ bs)) ≡ is_word_byte b
    go true e = rw (run-skips b bs e, e, lt-ltb 0 (suc (run bs)) (omega arith))
    go false e = rw (run-stops b bs e, e)

module _ (bs : List ℕ) where
  pub no_byte : length bs < 1 → false ≡ ltb 0 (run bs)
  no_byte h = let none : run bs ≡ 0 = omega (arith, run_within bs) in rw none

  module _ (some : 1 ≤ length bs) where
    pub goes : true ≡ is_word_byte (get_or bs 0 0) → true ≡ ltb 0 (run bs)
    goes e = e ∙ sym (first-run bs some)

    pub stops : false ≡ is_word_byte (get_or bs 0 0) → false ≡ ltb 0 (run bs)
    stops e = e ∙ sym (first-run bs some)

-- ---- a keyword's bytes alone

begins-take : (s bs : List ℕ) → begins s (take (length s) bs) ≡ begins s bs
unfolding begins
begins-take [] bs = refl
begins-take (x ∷ s) [] = refl
begins-take (x ∷ s) (b ∷ bs) = rw (begins-take s bs)

keyword-take : (n : ℕ) (bs : List ℕ) → keyword n (take n bs) ≡ keyword n bs
unfolding keyword
keyword-take n bs = go (eqb n 4) refl
  where
    go : (t : Bool) → eqb n 4 ≡ t → keyword n (take n bs) ≡ keyword n bs
    go true e = let four = eqb-true n 4 e in rw (four, begins-take (116 ∷ 114 ∷ 117 ∷ 101 ∷ []) bs, begins-take (102 ∷ 97 ∷ 105 ∷ 108 ∷ []) bs)
    go false e = rw e

-- ---- a word by its first byte

abbrev first : List ℕ → ℕ
first w = get_or w 0 0

-- an index says where it ends
no-index-found : (n : ℕ) (o : definition.Option ℕ) → None ≡ index_found n o → o ≡ none
no-index-found n none e = refl
no-index-found n (definition.some i) e = absurd (let z : ◌≡◌ {A = Option (ℕ × ℕ)} None (Some (i, n)) = e in cc)

an-index-found : (n : ℕ) (o : definition.Option ℕ) {p : ℕ × ℕ} → Some p ≡ index_found n o → (o ≡ definition.some p.0) × (p.1 ≡ n)
an-index-found n none {p} e = absurd (let z : ◌≡◌ {A = Option (ℕ × ℕ)} (Some p) None = e in cc)
an-index-found n (definition.some i) {p} e =
    let q : p ≡ (i, n) = (let z : ◌≡◌ {A = Option (ℕ × ℕ)} (Some p) (Some (i, n)) = e in cc) in (rw q, rw q)

module _ (bs : List ℕ) (begun : 0 < run bs) where
  symbol-word : first bs ≡ 115 → word (run bs) bs ≡ indexed symbol (suc (run (drop 1 bs))) (index_of 31 (run (drop 1 bs)) (drop 1 bs))
  unfolding word is_word_byte
  symbol-word e = go bs e
    where
      go : (bs : List ℕ) → first bs ≡ 115 → word (run bs) bs ≡ indexed symbol (suc (run (drop 1 bs))) (index_of 31 (run (drop 1 bs)) (drop 1 bs))
      go [] e = absurd (omega (arith, e))
      go (b ∷ ds) e =
          let less : suc (run ds) - 1 ≡ run ds = omega arith in
          let skips : run (115 ∷ ds) ≡ suc (run ds) = run-skips 115 ds refl in
          rw (e, skips, less)

  variable-word : first bs ≡ 86
      → word (run bs) bs ≡ indexed (λ (v : ℕ). slot (variable v)) (suc (run (drop 1 bs))) (index_of 15 (run (drop 1 bs)) (drop 1 bs))
  unfolding word is_word_byte
  variable-word e = go bs e
    where
      go : (bs : List ℕ) → first bs ≡ 86
          → word (run bs) bs ≡ indexed (λ (v : ℕ). slot (variable v)) (suc (run (drop 1 bs))) (index_of 15 (run (drop 1 bs)) (drop 1 bs))
      go [] e = absurd (omega (arith, e))
      go (b ∷ ds) e =
          let less : suc (run ds) - 1 ≡ run ds = omega arith in
          let skips : run (86 ∷ ds) ≡ suc (run ds) = run-skips 86 ds refl in
          rw (e, skips, less)

  constant-word : (n : ℕ) (w : List ℕ) → 48 ≤ first w → first w < 58 → word n w ≡ constant_of n w
  unfolding word
  constant-word n [] h _ = absurd (omega arith)
  constant-word n (b ∷ ds) h l =
      rw (ne_eqb b 115 (λ (e : b ≡ 115). omega arith), ne_eqb b 86 (λ (e : b ≡ 86). omega arith), digit-is b h (omega arith))

  other-word : (n : ℕ) (w : List ℕ) → 1 ≤ length w → (first w ≡ 115 → ⊥) → (first w ≡ 86 → ⊥) → (48 ≤ first w → first w < 58 → ⊥) → word n w ≡ keyword n w
  unfolding word
  other-word n [] h _ _ _ = absurd (omega arith)
  other-word n (b ∷ ds) h s v d = rw (ne_eqb b 115 s, ne_eqb b 86 v, no-digit b d)

  -- by the run of the bytes behind the letter, as the code has them
  module _ {r : Option Spelled} (gone : r ≡ None) where
    pub no_symbol : first bs ≡ 115 → None ≡ index_found (suc (run (from 1 bs))) (index_of 31 (run (from 1 bs)) (from 1 bs)) → found_of r ≡ word (run bs) bs
    unfolding indexed
    no_symbol e h =
        let n = no-index-found (suc (run (drop 1 bs))) (index_of 31 (run (drop 1 bs)) (drop 1 bs)) (rw (from-is 1 bs) at h) in
        rw (gone, symbol-word e, n)

    pub no_variable : first bs ≡ 86 → None ≡ index_found (suc (run (from 1 bs))) (index_of 15 (run (from 1 bs)) (from 1 bs)) → found_of r ≡ word (run bs) bs
    unfolding indexed
    no_variable e h =
        let n = no-index-found (suc (run (drop 1 bs))) (index_of 15 (run (drop 1 bs)) (drop 1 bs)) (rw (from-is 1 bs) at h) in
        rw (gone, variable-word e, n)

  pub a_symbol : {p : ℕ × ℕ} → first bs ≡ 115 → Some p ≡ index_found (suc (run (from 1 bs))) (index_of 31 (run (from 1 bs)) (from 1 bs))
      → found (symbol p.0) p.1 ≡ word (run bs) bs
  unfolding indexed
  a_symbol {p} e h =
      let f = an-index-found (suc (run (drop 1 bs))) (index_of 31 (run (drop 1 bs)) (drop 1 bs)) (rw (from-is 1 bs) at h) in
      rw (symbol-word e, f.0, f.1)

  pub a_variable : {p : ℕ × ℕ} → first bs ≡ 86 → Some p ≡ index_found (suc (run (from 1 bs))) (index_of 15 (run (from 1 bs)) (from 1 bs))
      → found (slot (variable p.0)) p.1 ≡ word (run bs) bs
  unfolding indexed
  a_variable {p} e h =
      let f = an-index-found (suc (run (drop 1 bs))) (index_of 15 (run (drop 1 bs)) (drop 1 bs)) (rw (from-is 1 bs) at h) in
      rw (variable-word e, f.0, f.1)

  pub a_constant : (r : Option Spelled) → 48 ≤ first bs → first bs < 58 → found_of r ≡ constant_of (run bs) bs → found_of r ≡ word (run bs) bs
  a_constant r l g h = h ∙ sym (constant-word (run bs) bs l g)

  module _ (s : first bs ≡ 115 → ⊥) (v : first bs ≡ 86 → ⊥) (d : 48 ≤ first bs → first bs < 58 → ⊥) {n : ℕ} (is : n ≡ run bs) where
    whole : keyword (length (take n bs)) (take n bs) ≡ word (run bs) bs
    whole =
        let long : length (take n bs) ≡ n = length-take-le n bs (omega (arith, run_within bs)) in
        rw (long, keyword-take n bs, is) (sym (other-word (run bs) bs (omega (arith, run_within bs)) s v d))

    pub no_other : {r : Option Spelled} → r ≡ None → nothing ≡ keyword (length (take n bs)) (take n bs) → found_of r ≡ word (run bs) bs
    no_other gone h = rw gone (h ∙ whole)

    pub other : {t : Token} → found t (length (take n bs)) ≡ keyword (length (take n bs)) (take n bs) → found t n ≡ word (run bs) bs
    other h = let long : length (take n bs) ≡ n = length-take-le n bs (omega (arith, run_within bs)) in rw (← long) (h ∙ whole)

-- ---- keywords

module _ (w : List ℕ) (four : 4 ≤ length w) (no_five : length w < 5) where
  pub true_read : get_or w 0 0 ≡ 116 → get_or w 1 0 ≡ 114 → get_or w 2 0 ≡ 117 → get_or w 3 0 ≡ 101
      → found (mark true_word) (length w) ≡ keyword (length w) w
  unfolding keyword begins
  true_read p q r s = let e = text_from_reads w (116 ∷ 114 ∷ 117 ∷ 101 ∷ []) (omega arith) (p, (q, (r, (s, tt)))) in rw e

  pub fail_read : get_or w 0 0 ≡ 102 → get_or w 1 0 ≡ 97 → get_or w 2 0 ≡ 105 → get_or w 3 0 ≡ 108
      → found (mark fail_word) (length w) ≡ keyword (length w) w
  unfolding keyword begins
  fail_read p q r s = let e = text_from_reads w (102 ∷ 97 ∷ 105 ∷ 108 ∷ []) (omega arith) (p, (q, (r, (s, tt)))) in rw e

begins-is : (s w : List ℕ) → length w ≡ length s → begins s w ≡ true → w ≡ s
unfolding begins
begins-is [] [] h e = refl
begins-is [] (b ∷ w) h e = absurd (omega (arith, h))
begins-is (x ∷ s) [] h e = absurd (omega (arith, h))
begins-is (x ∷ s) (b ∷ w) h e = rw (eqb-true b x (and-left (eqb b x) (begins s w) e), begins-is s w (omega (arith, h)) (and-right (eqb b x) (begins s w) e))

pub no_keyword : (w : List ℕ) → (4 ≤ length w → length w < 5 → get_or w 0 0 ≡ 116 → get_or w 1 0 ≡ 114 → get_or w 2 0 ≡ 117 → get_or w 3 0 ≡ 101 → ⊥)
    → (4 ≤ length w → length w < 5 → get_or w 0 0 ≡ 102 → get_or w 1 0 ≡ 97 → get_or w 2 0 ≡ 105 → get_or w 3 0 ≡ 108 → ⊥)
    → nothing ≡ keyword (length w) w
unfolding keyword
no_keyword w m n = go (eqb (length w) 4) (begins (116 ∷ 114 ∷ 117 ∷ 101 ∷ []) w) (begins (102 ∷ 97 ∷ 105 ∷ 108 ∷ []) w) refl refl refl
  where
    go : (l a b : Bool) → eqb (length w) 4 ≡ l → begins (116 ∷ 114 ∷ 117 ∷ 101 ∷ []) w ≡ a → begins (102 ∷ 97 ∷ 105 ∷ 108 ∷ []) w ≡ b
        → nothing ≡ keyword (length w) w
    go false a b e p q = rw e
    go true true b e p q =
        let four = eqb-true (length w) 4 e in
        let same = begins-is (116 ∷ 114 ∷ 117 ∷ 101 ∷ []) w four p in
        absurd (m (omega (arith, four)) (omega (arith, four)) (rw same) (rw same) (rw same) (rw same))
    go true false true e p q =
        let four = eqb-true (length w) 4 e in
        let same = begins-is (102 ∷ 97 ∷ 105 ∷ 108 ∷ []) w four q in
        absurd (n (omega (arith, four)) (omega (arith, four)) (rw same) (rw same) (rw same) (rw same))
    go true false false e p q = rw (e, p, q)

pub ruleset run_rules = (run_is, run_within)

pub ruleset goes_on_rules = (no_byte, goes, stops)

pub ruleset index_rules = (no_index, ones_index, tens_index)

pub ruleset keyword_rules = (true_read, fail_read, no_keyword)

pub ruleset word_rules = (no_symbol, no_variable, no_other, a_symbol, a_variable, a_constant, other)
