-- A token that is printed is found again: the digits of a number say it, a word is followed by no letter or digit, and the definition computes on the
-- bytes of a sign.
use Prim.Native.Nat.{ℕ, zero, suc, ◌+◌, ◌-◌, ◌*◌, ◌/◌, ◌%◌, ◌≤◌, ◌<◌}
use native.Mathlib.Omega.{arith}
use mathlib.Core.Path.{◌≡◌, refl, ap, ◌∙◌}
use mathlib.Core.Bool.{Bool, true, false, cond}
use mathlib.Core.Option.{some}
use mathlib.Core.List.{List, [], ◌∷◌, ◌++◌}
use lib.Dec.{ltb, leb→le}
use lib.IntN.{pos, negsuc}
use lib.Signed.{mag}
use lib.ListN.{length, get_or, drop}
use lib.Seq.{drop-append_seam}
use borrow.Author.Tests.{ltb-true, ltb-false, lt-ltb, le-ltb, le-leb, ne_eqb}
use Rattle.numbers.specs.Numbers.{lowest, highest}
use Rattle.model.proofs.Every.{every}
use Rattle.grammar.specs.Tree.{Term, constant, variable, Operation, sum, difference, product, quotient, remainder, Comparator, equal, unequal, less, at_most}
use Rattle.grammar.specs.Tree.{greater, at_least}
use Rattle.grammar.specs.WellFormed.{TermGood}
use Rattle.text.specs.Token.{Token, symbol, slot, compares, operates, mark, Mark, backslash, simplifies, propagates, bar, opens, closes, comma, stop}
use Rattle.text.specs.Token.{true_word, fail_word, is_slot}
use Rattle.text.specs.Spelling.{is_blank, is_digit, is_word_byte, run, digits, value, value_from, negative, index_of, found, indexed, constant_of}
use Rattle.text.specs.Spelling.{begins, keyword, word, negated, signs, sign_of, token_at}
use Rattle.text.specs.Printed.{decimal_before, decimal, term_text, symbol_text, comparator_text, operation_text, mark_text}
use Rattle.text.proofs.Bytes.{digit-is, digit-low, digit-high, digit-word, word-no-blank}
use Rattle.text.specs.Tokens.{AllTokens, lexed_from, tokens_in}
use Rattle.text.proofs.Lexing.{run-some, lexed-blank, lexed-token}

-- ---- decimal numbers

-- some digits, and the number they say behind v
abbrev pub AllDigits : List ℕ → Type 0
AllDigits ds = every (λ (d : ℕ). is_digit d ≡ true) ds

pub numeral_from : ℕ → List ℕ → ℕ
numeral_from v [] = v
numeral_from v (d ∷ ds) = numeral_from (10 * v + (d - 48)) ds

tens : ℕ → ℕ
tens zero = 1
tens (suc d) = 10 * tens d

digit-of : (n : ℕ) → n < 10 → is_digit (48 + n) ≡ true
digit-of n h = digit-is (48 + n) (omega arith) (omega arith)

-- what `decimal_before` puts before some digits
record Decimal (n : ℕ) (later ds : List ℕ) : Type 0 where
  all : AllDigits later → AllDigits ds
  says : numeral_from 0 ds ≡ numeral_from n later

decimal-zero : (n : ℕ) (later : List ℕ) → n < 1 → Decimal n later later
decimal-zero n later h = let z : n ≡ 0 = omega arith in record { all = λ a. a; says = rw z }

decimal-one : (n : ℕ) (later : List ℕ) → n < 10 → Decimal n later ((48 + n) ∷ later)
unfolding numeral_from
decimal-one n later h =
    let e : 10 * 0 + (48 + n - 48) ≡ n = omega arith in
    record { all = λ a. (digit-of n h, a); says = rw e }

decimal-more : (n : ℕ) (later ds : List ℕ) → Decimal (n / 10) ((48 + n % 10) ∷ later) ds → Decimal n later ds
unfolding numeral_from
decimal-more n later ds d =
    let e : 10 * (n / 10) + (48 + n % 10 - 48) ≡ n = omega arith in
    record { all = λ a. d.all (digit-of (n % 10) (omega arith), a); says = d.says ∙ rw e }

before-is : (d n : ℕ) (later : List ℕ) → n < tens d → Decimal n later (decimal_before d n later)
unfolding decimal_before tens
before-is zero n later h = decimal-zero n later h
before-is (suc d) n later h = go (ltb n 10) refl (before-is d (n / 10) ((48 + n % 10) ∷ later) (omega arith))
  where
    go : (t : Bool) → ltb n 10 ≡ t → Decimal (n / 10) ((48 + n % 10) ∷ later) (decimal_before d (n / 10) ((48 + n % 10) ∷ later))
        → Decimal n later (cond t ((48 + n) ∷ later) (decimal_before d (n / 10) ((48 + n % 10) ∷ later)))
    go true e ih = decimal-one n later (ltb-true n 10 e)
    go false e ih = decimal-more n later _ ih

decimal-is : (n : ℕ) → n < 10000000000 → Decimal n [] (decimal n)
unfolding decimal tens
decimal-is n h = before-is 10 n [] h

pub decimal-digits : (n : ℕ) → n < 10000000000 → AllDigits (decimal n)
decimal-digits n h = (decimal-is n h).all tt

decimal-says : (n : ℕ) → n < 10000000000 → numeral_from 0 (decimal n) ≡ n
unfolding numeral_from
decimal-says n h = (decimal-is n h).says

decimal-low : (n : ℕ) → n < 10 → decimal n ≡ (48 + n) ∷ []
unfolding decimal decimal_before
decimal-low n h = rw (lt-ltb n 10 h)

decimal-two : (n : ℕ) → 10 ≤ n → n < 100 → decimal n ≡ (48 + n / 10) ∷ (48 + n % 10) ∷ []
unfolding decimal decimal_before
decimal-two n l h = rw (le-ltb n 10 l, lt-ltb (n / 10) 10 (omega arith))

before-length : (d n : ℕ) (later : List ℕ) → length later ≤ length (decimal_before d n later)
unfolding decimal_before
before-length zero n later = omega arith
before-length (suc d) n later = go (ltb n 10) (before-length d (n / 10) ((48 + n % 10) ∷ later))
  where
    go : (t : Bool) → suc (length later) ≤ length (decimal_before d (n / 10) ((48 + n % 10) ∷ later))
        → length later ≤ length (cond t ((48 + n) ∷ later) (decimal_before d (n / 10) ((48 + n % 10) ∷ later)))
    go true h = omega arith
    go false h = omega arith

pub decimal-some : (n : ℕ) → 1 ≤ length (decimal n)
unfolding decimal decimal_before
decimal-some n = go (ltb n 10) (before-length 9 (n / 10) ((48 + n % 10) ∷ []))
  where
    go : (t : Bool) → 1 ≤ length (decimal_before 9 (n / 10) ((48 + n % 10) ∷ []))
        → 1 ≤ length (cond t ((48 + n) ∷ []) (decimal_before 9 (n / 10) ((48 + n % 10) ∷ [])))
    go true h = omega arith
    go false h = h

-- ---- digits and what follows them

-- no letter and no digit follows
abbrev pub Ends : List ℕ → Type 0
Ends rest = is_word_byte (get_or rest 0 0) ≡ false

module _ (rest : List ℕ) where
  run-digits : (ds : List ℕ) → AllDigits ds → Ends rest → run (ds ++ rest) ≡ length ds
  unfolding run
  run-digits [] a e = go rest e
    where
      go : (rest : List ℕ) → Ends rest → run rest ≡ 0
      go [] e = refl
      go (b ∷ bs) e = rw e
  run-digits (d ∷ ds) a e = rw (digit-word d a.0) (ap suc (run-digits ds a.1 e))

  digits-digits : (ds : List ℕ) → AllDigits ds → digits (length ds) (ds ++ rest) ≡ true
  unfolding digits
  digits-digits [] a = refl
  digits-digits (d ∷ ds) a = rw a.0 (digits-digits ds a.1)

  value-digits : (ds : List ℕ) (v : ℕ) → value_from v (length ds) (ds ++ rest) ≡ numeral_from v ds
  unfolding value_from numeral_from
  value-digits [] v = refl
  value-digits (d ∷ ds) v = value-digits ds (10 * v + (d - 48))

-- ---- tokens by their texts

module _ (rest : List ℕ) (ends : Ends rest) where
  module _ (ds : List ℕ) (all : AllDigits ds) where
    pub negated-digits : 1 ≤ length ds → numeral_from 0 ds ≤ 2147483648
        → negated (run (ds ++ rest)) (ds ++ rest) ≡ found (slot (constant (negative (numeral_from 0 ds)))) (suc (length ds))
    unfolding negated value
    negated-digits h l =
        rw (run-digits rest ds all ends, digits-digits rest ds all, value-digits rest ds 0, le-leb 1 (length ds) h, le-leb (numeral_from 0 ds) 2147483648 l)

    constant-digits : numeral_from 0 ds ≤ 2147483647
        → constant_of (run (ds ++ rest)) (ds ++ rest) ≡ found (slot (constant (pos (numeral_from 0 ds)))) (length ds)
    unfolding constant_of value
    constant-digits l = rw (run-digits rest ds all ends, digits-digits rest ds all, value-digits rest ds 0, le-leb (numeral_from 0 ds) 2147483647 l)

  -- a constant that is not below zero begins with a digit
  pub constant-found : (after : Bool) (d : ℕ) (ds : List ℕ) → AllDigits (d ∷ ds) → numeral_from 0 (d ∷ ds) ≤ 2147483647
      → token_at after (d ∷ (ds ++ rest)) ≡ found (slot (constant (pos (numeral_from 0 (d ∷ ds))))) (length (d ∷ ds))
  unfolding token_at word
  constant-found after d ds a l =
      let low = digit-low d a.0 in
      let high = digit-high d a.0 in
      let n₁ : d ≡ 115 → ⊥ = λ (e : d ≡ 115). omega arith in
      let n₂ : d ≡ 86 → ⊥ = λ (e : d ≡ 86). omega arith in
      rw (digit-word d a.0, ne_eqb d 115 n₁, ne_eqb d 86 n₂, a.0) (constant-digits (d ∷ ds) a l)

  pub number-found : (after : Bool) (ds : List ℕ) → AllDigits ds → 1 ≤ length ds → numeral_from 0 ds ≤ 2147483647
      → token_at after (ds ++ rest) ≡ found (slot (constant (pos (numeral_from 0 ds)))) (length ds)
  number-found after [] a h l = absurd (omega arith)
  number-found after (d ∷ ds) a h l = constant-found after d ds a l

  -- an index up to 99, in its one spelling
  index-low : (most n : ℕ) → n ≤ most → n < 10 → index_of most 1 ((48 + n) ∷ rest) ≡ some n
  unfolding index_of digits value value_from
  index-low most n l h = let e : 10 * 0 + (48 + n - 48) ≡ n = omega arith in rw (digit-of n h, e, le-leb n most l)

  index-two : (most n : ℕ) → n ≤ most → 10 ≤ n → n < 100 → index_of most 2 ((48 + n / 10) ∷ (48 + n % 10) ∷ rest) ≡ some n
  unfolding index_of digits value value_from
  index-two most n l m h =
      let e : 10 * (10 * 0 + (48 + n / 10 - 48)) + (48 + n % 10 - 48) ≡ n = omega arith in
      rw (digit-of (n / 10) (omega arith), digit-of (n % 10) (omega arith), e, le-ltb n 10 m, le-leb n most l)

  index-found : (most n : ℕ) → n ≤ most → n < 100 → index_of most (length (decimal n)) (decimal n ++ rest) ≡ some n
  index-found most n l h = go (ltb n 10) refl
    where
      go : (t : Bool) → ltb n 10 ≡ t → index_of most (length (decimal n)) (decimal n ++ rest) ≡ some n
      go true e = let m = ltb-true n 10 e in rw (decimal-low n m) (index-low most n l m)
      go false e = let m = ltb-false n 10 e in rw (decimal-two n m h) (index-two most n l m h)

  pub symbol-found : (after : Bool) (k : ℕ) → k ≤ 31 → token_at after (115 ∷ (decimal k ++ rest)) ≡ found (symbol k) (suc (length (decimal k)))
  unfolding token_at word indexed is_word_byte
  symbol-found after k h =
      let all = decimal-digits k (omega arith) in
      let n : run (115 ∷ (decimal k ++ rest)) ≡ suc (length (decimal k)) =
      run-some 115 (decimal k ++ rest) refl ∙ ap suc (run-digits rest (decimal k) all ends) in
      let one : suc (length (decimal k)) - 1 ≡ length (decimal k) = omega arith in
      rw (n, one, index-found 31 k h (omega arith))

  pub variable-found : (after : Bool) (v : ℕ) → v ≤ 15 → token_at after (86 ∷ (decimal v ++ rest)) ≡ found (slot (variable v)) (suc (length (decimal v)))
  unfolding token_at word indexed is_word_byte
  variable-found after v h =
      let all = decimal-digits v (omega arith) in
      let n : run (86 ∷ (decimal v ++ rest)) ≡ suc (length (decimal v)) =
      run-some 86 (decimal v ++ rest) refl ∙ ap suc (run-digits rest (decimal v) all ends) in
      let one : suc (length (decimal v)) - 1 ≡ length (decimal v) = omega arith in
      rw (n, one, index-found 15 v h (omega arith))

  pub negative-found : (n : ℕ) → n < 2147483648
      → token_at false (45 ∷ (decimal (suc n) ++ rest)) ≡ found (slot (constant (negsuc n))) (suc (length (decimal (suc n))))
  unfolding token_at is_word_byte negative
  negative-found n h =
      let says = decimal-says (suc n) (omega arith) in
      negated-digits (decimal (suc n)) (decimal-digits (suc n) (omega arith)) (decimal-some (suc n)) (omega arith) ∙ rw says

  run-none : run rest ≡ 0
  run-none = run-digits rest [] tt ends

  pub true-found : (after : Bool) → token_at after (116 ∷ 114 ∷ 117 ∷ 101 ∷ rest) ≡ found (mark true_word) 4
  unfolding token_at word is_word_byte is_digit run keyword begins
  true-found after = rw run-none

  pub fail-found : (after : Bool) → token_at after (102 ∷ 97 ∷ 105 ∷ 108 ∷ rest) ≡ found (mark fail_word) 4
  unfolding token_at word is_word_byte is_digit run keyword begins
  fail-found after = rw run-none

-- ---- bytes that are some tokens

-- behind a token of which `after` says whether it is a constant or a variable, wherever the bytes stand
pub record Lexes (after : Bool) (bs : List ℕ) (ts : List Token) : Type 0 where
  pub all : (p : ℕ) → AllTokens (lexed_from 0 after p bs)
  pub same : (p : ℕ) → tokens_in (lexed_from 0 after p bs) ≡ ts

pub lexes-end : (after : Bool) → Lexes after [] []
unfolding lexed_from tokens_in
lexes-end after = record { all = λ p. tt; same = λ p. refl }

pub lexes-blank : {after : Bool} {bs : List ℕ} {ts : List Token} (b : ℕ) → is_blank b ≡ true → Lexes after bs ts → Lexes after (b ∷ bs) ts
lexes-blank {after} {bs} b e l =
    record { all = λ p. rw (lexed-blank after p b bs e) (l.all (suc p)); same = λ p. rw (lexed-blank after p b bs e) (l.same (suc p)) }

pub lexes-token : {after : Bool} {bs : List ℕ} {ts : List Token} {t : Token} {n : ℕ} (b : ℕ) → is_blank b ≡ false → token_at after (b ∷ bs) ≡ found t n
    → Lexes (is_slot t) (drop n (b ∷ bs)) ts → Lexes after (b ∷ bs) (t ∷ ts)
unfolding tokens_in
lexes-token {after} {bs} {ts} {t} {n} b e f l =
    record {
      all = λ p. rw (lexed-token after p b bs e f) (l.all (p + n));
      same = λ p. rw (lexed-token after p b bs e f) (ap (λ (us : List Token). t ∷ us) (l.same (p + n)));
    }

-- ---- a printed token

-- a word: letters and digits
abbrev pub is_word : Token → Bool
is_word (symbol k) = true
is_word (slot a) = true
is_word (compares c) = false
is_word (operates o) = false
is_word (mark backslash) = false
is_word (mark simplifies) = false
is_word (mark propagates) = false
is_word (mark bar) = false
is_word (mark opens) = false
is_word (mark closes) = false
is_word (mark comma) = false
is_word (mark stop) = false
is_word (mark true_word) = true
is_word (mark fail_word) = true

module _ (after : Bool) (rest : List ℕ) (ts : List Token) (l : Lexes false rest ts) where
  pub comparator-lexes : (c : Comparator) → Lexes after (comparator_text c ++ rest) (compares c ∷ ts)
  unfolding comparator_text is_blank token_at sign_of signs begins is_word_byte
  comparator-lexes equal = lexes-blank 32 refl (lexes-token {n = 1} 61 refl refl (lexes-blank 32 refl l))
  comparator-lexes unequal = lexes-blank 32 refl (lexes-token {n = 2} 92 refl refl (lexes-blank 32 refl l))
  comparator-lexes less = lexes-blank 32 refl (lexes-token {n = 1} 60 refl refl (lexes-blank 32 refl l))
  comparator-lexes at_most = lexes-blank 32 refl (lexes-token {n = 2} 61 refl refl (lexes-blank 32 refl l))
  comparator-lexes greater = lexes-blank 32 refl (lexes-token {n = 1} 62 refl refl (lexes-blank 32 refl l))
  comparator-lexes at_least = lexes-blank 32 refl (lexes-token {n = 2} 62 refl refl (lexes-blank 32 refl l))

  -- a minus is an operation behind a constant or a variable
  pub operation-lexes : (o : Operation) → (o ≡ difference → after ≡ true) → Lexes after (operation_text o ++ rest) (operates o ∷ ts)
  unfolding operation_text is_blank token_at sign_of signs begins is_word_byte
  operation-lexes sum h = lexes-blank 32 refl (lexes-token {n = 1} 43 refl refl (lexes-blank 32 refl l))
  operation-lexes difference h = lexes-blank 32 refl (lexes-token {n = 1} 45 refl (rw (h refl)) (lexes-blank 32 refl l))
  operation-lexes product h = lexes-blank 32 refl (lexes-token {n = 1} 42 refl refl (lexes-blank 32 refl l))
  operation-lexes quotient h = lexes-blank 32 refl (lexes-token {n = 1} 47 refl refl (lexes-blank 32 refl l))
  operation-lexes remainder h = lexes-blank 32 refl (lexes-token {n = 1} 37 refl refl (lexes-blank 32 refl l))

  pub mark-lexes : (m : Mark) → (is_word (mark m) ≡ true → Ends rest) → Lexes after (mark_text m ++ rest) (mark m ∷ ts)
  unfolding mark_text is_blank token_at sign_of signs begins is_word_byte
  mark-lexes backslash h = lexes-blank 32 refl (lexes-token {n = 1} 92 refl refl (lexes-blank 32 refl l))
  mark-lexes simplifies h = lexes-blank 32 refl (lexes-token {n = 3} 60 refl refl (lexes-blank 32 refl l))
  mark-lexes propagates h = lexes-blank 32 refl (lexes-token {n = 3} 61 refl refl (lexes-blank 32 refl l))
  mark-lexes bar h = lexes-blank 32 refl (lexes-token {n = 1} 124 refl refl (lexes-blank 32 refl l))
  mark-lexes opens h = lexes-token {n = 1} 40 refl refl l
  mark-lexes closes h = lexes-token {n = 1} 41 refl refl l
  mark-lexes comma h = lexes-token {n = 1} 44 refl refl (lexes-blank 32 refl l)
  mark-lexes stop h = lexes-token {n = 1} 46 refl refl (lexes-blank 10 refl l)
  mark-lexes true_word h = lexes-token {n = 4} 116 refl (true-found rest (h refl) after) l
  mark-lexes fail_word h = lexes-token {n = 4} 102 refl (fail-found rest (h refl) after) l

  pub symbol-lexes : (k : ℕ) → k ≤ 31 → Ends rest → Lexes after (symbol_text k ++ rest) (symbol k ∷ ts)
  unfolding symbol_text is_blank
  symbol-lexes k h e = lexes-token {n = suc (length (decimal k))} 115 refl (symbol-found rest e after k h) (rw (drop-append_seam (decimal k) rest) l)

lexes-bytes : {after : Bool} {ts : List Token} {t : Token} {n : ℕ} (bs : List ℕ) → is_blank (get_or bs 0 0) ≡ false → token_at after bs ≡ found t n
    → Lexes (is_slot t) (drop n bs) ts → Lexes after bs (t ∷ ts)
unfolding token_at
lexes-bytes [] e f l = absurd (let z : ◌≡◌ {A = ℕ} 0 1 = cc in omega arith)
lexes-bytes (b ∷ bs) e f l = lexes-token b e f l

digits-no-blank : (ds rest : List ℕ) → AllDigits ds → 1 ≤ length ds → is_blank (get_or (ds ++ rest) 0 0) ≡ false
digits-no-blank [] rest a h = absurd (omega arith)
digits-no-blank (d ∷ ds) rest a h = word-no-blank d (digit-word d a.0)

module _ (rest : List ℕ) (ts : List Token) (l : Lexes true rest ts) (e : Ends rest) where
  -- "A minus belongs to a constant unless a constant or variable stands before it"
  pub slot-lexes : (a : Term) → TermGood a → Lexes false (term_text a ++ rest) (slot a ∷ ts)
  unfolding term_text is_blank
  slot-lexes (constant (pos n)) g =
      let h : n ≤ 2147483647 = leb→le n (mag highest) g.high.le in
      let all = decimal-digits n (omega arith) in
      let says = decimal-says n (omega arith) in
      lexes-bytes {n = length (decimal n)} (decimal n ++ rest) (digits-no-blank (decimal n) rest all (decimal-some n))
      (number-found rest e false (decimal n) all (decimal-some n) (omega arith) ∙ rw says) (rw (drop-append_seam (decimal n) rest) l)
  slot-lexes (constant (negsuc n)) g =
      let h : n ≤ 2147483647 = leb→le n (mag lowest) g.low.le in
      lexes-token {n = suc (length (decimal (suc n)))} 45 refl (negative-found rest e n (omega arith)) (rw (drop-append_seam (decimal (suc n)) rest) l)
  slot-lexes (variable v) g =
      lexes-token {n = suc (length (decimal v))} 86 refl (variable-found rest e false v g) (rw (drop-append_seam (decimal v) rest) l)
