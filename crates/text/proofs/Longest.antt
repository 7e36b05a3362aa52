-- "The longest token is taken; a run of letters and digits is never split." The signs stand longest first, so that the first that fits is the
-- longest; a word is a whole run, and no sign has a letter or a digit.
use Prim.Native.Nat.{ℕ, zero, suc, ◌-◌, ◌≤◌, ◌<◌}
use native.Mathlib.Omega.{arith}
use mathlib.Core.Path.{◌≡◌, refl, sym, ◌∙◌}
use mathlib.Core.Bool.{Bool, true, false, cond, not, ◌&&◌}
use mathlib.Core.List.{List, [], ◌∷◌}
use lib.Dec.{leb, eqb}
use lib.ListN.{length, get_or}
use borrow.Author.Tests.{eqb-true, not-true}
use Rattle.model.proofs.Every.{every, every-weaken}
use Rattle.grammar.specs.Tree.{variable}
use Rattle.text.specs.Token.{Token, symbol, slot}
use Rattle.text.specs.Spelling.{is_word_byte, is_digit, run, digits, value, index_of, found, begins, constant_of, keyword, word, negated, Sign}
use Rattle.text.specs.Spelling.{signs, sign_of, token_at}
use Rattle.text.proofs.Bytes.{no-test, and-left, and-right}
use Rattle.text.proofs.Lexing.{FoundIs, is-found, is-nothing, is-cond, is-when, is-indexed, found-length}

-- ---- the longest sign

-- no sign with which the bytes begin is longer than n
abbrev pub Longest : List Sign → List ℕ → ℕ → Type 0
Longest ss bs n = every (λ (s : Sign). begins s.spelling bs ≡ true → length s.spelling ≤ n) ss

-- each sign is at most as long as the one before it
abbrev Falling : List Sign → Type 0
Falling [] = Unit {0}
Falling (s ∷ []) = Unit {0}
Falling (s ∷ u ∷ ss) = (length u.spelling ≤ length s.spelling) × Falling (u ∷ ss)

falls : (s : Sign) (ss : List Sign) → Falling (s ∷ ss) → every (λ (u : Sign). length u.spelling ≤ length s.spelling) ss
falls s [] f = tt
falls s (u ∷ ss) f = (
  f.0,
  every-weaken (λ (v : Sign). length v.spelling ≤ length u.spelling) (λ (v : Sign). length v.spelling ≤ length s.spelling)
      (λ v h. let l = f.0 in omega arith) ss (falls u ss f.1),
)

falling-tail : (s : Sign) (ss : List Sign) → Falling (s ∷ ss) → Falling ss
falling-tail s [] f = tt
falling-tail s (u ∷ ss) f = f.1

longest-of : (ss : List Sign) (bs : List ℕ) → Falling ss → FoundIs (λ t n. Longest ss bs n) (sign_of ss bs)
unfolding sign_of
longest-of [] bs f = is-nothing
longest-of (s ∷ ss) bs f =
    is-cond (begins s.spelling bs)
    (λ e. is-found (
      (λ h. omega arith),
      every-weaken (λ (u : Sign). length u.spelling ≤ length s.spelling)
          (λ (u : Sign). begins u.spelling bs ≡ true → length u.spelling ≤ length s.spelling) (λ u l h. l) ss (falls s ss f),
    ))
    (λ e. record { holds = λ t n g. ((λ h. no-test (sym h ∙ e)), (longest-of ss bs (falling-tail s ss f)).holds t n g) })

signs-fall : Falling signs
unfolding signs
signs-fall = omega arith

pub longest : (bs : List ℕ) {t : Token} {n : ℕ} → sign_of signs bs ≡ found t n → Longest signs bs n
longest bs {t} {n} e = (longest-of signs bs signs-fall).holds t n e

-- ---- the whole run

-- the run's bytes are letters and digits, and the byte behind it is none
pub run-bytes : (bs : List ℕ) (i : ℕ) → i < run bs → is_word_byte (get_or bs i 0) ≡ true
unfolding run
run-bytes [] i h = absurd (omega arith)
run-bytes (b ∷ bs) i h = go (is_word_byte b) refl i h (run-bytes bs)
  where
    go : (t : Bool) → is_word_byte b ≡ t → (i : ℕ) → i < cond t (suc (run bs)) 0 → ((j : ℕ) → j < run bs → is_word_byte (get_or bs j 0) ≡ true)
        → is_word_byte (get_or (b ∷ bs) i 0) ≡ true
    go true e zero h ih = e
    go true e (suc i) h ih = ih i (omega arith)
    go false e i h ih = absurd (omega arith)

pub run-ends : (bs : List ℕ) → is_word_byte (get_or bs (run bs) 0) ≡ false
unfolding run is_word_byte
run-ends [] = refl
run-ends (b ∷ bs) = go (is_word_byte b) refl (run-ends bs)
  where
    go : (t : Bool) → is_word_byte b ≡ t → is_word_byte (get_or bs (run bs) 0) ≡ false → is_word_byte (get_or (b ∷ bs) (cond t (suc (run bs)) 0) 0) ≡ false
    go true e ih = ih
    go false e ih = e

word-whole : (n : ℕ) (bs : List ℕ) → FoundIs (λ t m. m ≡ n) (word n bs)
unfolding word constant_of keyword
word-whole n [] = is-nothing
word-whole n (b ∷ bs) =
    is-cond (eqb b 115) (λ e. is-indexed symbol n (index_of 31 (n - 1) bs) (record { holds = λ i f. refl }))
    (λ e. is-cond (eqb b 86) (λ f. is-indexed (λ (v : ℕ). slot (variable v)) n (index_of 15 (n - 1) bs) (record { holds = λ i f. refl }))
    (λ f. is-cond (is_digit b) (λ g. is-when (digits n (b ∷ bs) && leb (value n (b ∷ bs)) 2147483647) (λ h. is-found refl))
    (λ g. is-cond (eqb n 4 && begins (116 ∷ 114 ∷ 117 ∷ 101 ∷ []) (b ∷ bs)) (λ h. is-found (four _ h))
    (λ h. is-when (eqb n 4 && begins (102 ∷ 97 ∷ 105 ∷ 108 ∷ []) (b ∷ bs)) (λ i. is-found (four _ i))))))
  where
    four : (t : Bool) → eqb n 4 && t ≡ true → 4 ≡ n
    four t e = sym (eqb-true n 4 (and-left (eqb n 4) t e))

negated-whole : (n : ℕ) (bs : List ℕ) → FoundIs (λ t m. m ≡ suc n) (negated n bs)
unfolding negated
negated-whole n bs = is-when (leb 1 n && (digits n bs && leb (value n bs) 2147483648)) (λ e. is-found refl)

-- ---- no token ends inside a run

no_word : List ℕ → Bool
no_word [] = true
no_word (b ∷ bs) = not (is_word_byte b) && no_word bs

no_words : List Sign → Bool
no_words [] = true
no_words (s ∷ ss) = no_word s.spelling && no_words ss

signs-no-words : no_words signs ≡ true
unfolding no_words no_word signs is_word_byte
signs-no-words = refl

-- the last byte of a token and the byte behind it are not both letters or digits
abbrev pub Unsplit : List ℕ → ℕ → Type 0
Unsplit bs n = is_word_byte (get_or bs (n - 1) 0) ≡ true → is_word_byte (get_or bs n 0) ≡ false

begins-byte : (s bs : List ℕ) (i : ℕ) → begins s bs ≡ true → no_word s ≡ true → i < length s → is_word_byte (get_or bs i 0) ≡ false
unfolding begins no_word
begins-byte [] bs i e w h = absurd (omega arith)
begins-byte (s ∷ ss) [] i e w h = no-test (sym e)
begins-byte (s ∷ ss) (b ∷ bs) zero e w h =
    rw (eqb-true b s (and-left (eqb b s) (begins ss bs) e)) (not-true (is_word_byte s) (and-left (not (is_word_byte s)) (no_word ss) w))
begins-byte (s ∷ ss) (b ∷ bs) (suc i) e w h =
    begins-byte ss bs i (and-right (eqb b s) (begins ss bs) e) (and-right (not (is_word_byte s)) (no_word ss) w) (omega arith)

sign-unsplit : (ss : List Sign) (bs : List ℕ) → no_words ss ≡ true → FoundIs (λ t n. 1 ≤ n → Unsplit bs n) (sign_of ss bs)
unfolding sign_of no_words
sign-unsplit [] bs w = is-nothing
sign-unsplit (s ∷ ss) bs w =
    is-cond (begins s.spelling bs)
    (λ e. is-found (λ l h. no-test (sym h
    ∙ begins-byte s.spelling bs (length s.spelling - 1) e (and-left (no_word s.spelling) (no_words ss) w) (omega arith))))
    (λ e. sign-unsplit ss bs (and-right (no_word s.spelling) (no_words ss) w))

unsplit : (after : Bool) (bs : List ℕ) → FoundIs (λ t n. 1 ≤ n → Unsplit bs n) (token_at after bs)
unfolding token_at
unsplit after [] = is-nothing
unsplit after (b ∷ bs) =
    is-cond (is_word_byte b) (λ e. record { holds = λ t n f l h. rw ((word-whole (run (b ∷ bs)) (b ∷ bs)).holds t n f) (run-ends (b ∷ bs)) })
    (λ e. is-cond (eqb b 45 && not after)
    (λ f. record { holds = λ t n g l h. rw ((negated-whole (run bs) bs).holds t n g) (run-ends bs) })
    (λ f. sign-unsplit signs (b ∷ bs) signs-no-words))

-- a word and the digits of a constant below zero are whole runs
pub whole-word : (after : Bool) (b : ℕ) (bs : List ℕ) {t : Token} {n : ℕ} → is_word_byte b ≡ true → token_at after (b ∷ bs) ≡ found t n → n ≡ run (b ∷ bs)
unfolding token_at
whole-word after b bs {t} {n} w e = (word-whole (run (b ∷ bs)) (b ∷ bs)).holds t n (rw w at e)

pub whole-negative : (bs : List ℕ) {t : Token} {n : ℕ} → token_at false (45 ∷ bs) ≡ found t n → n ≡ suc (run bs)
unfolding token_at is_word_byte
whole-negative bs {t} {n} e = (negated-whole (run bs) bs).holds t n e

-- "a run of letters and digits is never split"
pub never-split : (after : Bool) (bs : List ℕ) {t : Token} {n : ℕ} → token_at after bs ≡ found t n → Unsplit bs n
never-split after bs {t} {n} e = (unsplit after bs).holds t n e (found-length after bs e).0
