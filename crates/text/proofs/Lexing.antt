-- The tokens of a text, one step at a time: at its end, at a blank, at a token and where there is none. A token that is found has a byte at least
-- and lies inside the bytes, so that reading on behind it is skipping its length; and it is one that has a spelling. By the cases of the definition.
use Prim.Native.Nat.{ℕ, zero, suc, ◌+◌, ◌-◌, ◌≤◌, ◌<◌}
use native.Mathlib.Nat.{add-zero}
use native.Mathlib.Numerals.{add-one}
use native.Mathlib.Omega.{arith}
use mathlib.Core.Path.{◌≡◌, refl, sym, subst₂}
use mathlib.Core.Bool.{Bool, true, false, cond, not, ◌&&◌}
use mathlib.Core.Option.{Option, none, some}
use mathlib.Core.List.{List, [], ◌∷◌}
use lib.Dec.{ltb, leb, eqb}
use lib.ListN.{length, get_or, drop, drop_of_length-le}
use lib.Seq.{drop-cons, drop-drop}
use borrow.Author.Tests.{leb-true, eqb-true}
use Rattle.numbers.proofs.Laws.{InRange, pos-ranged, negsuc-ranged}
use Rattle.model.proofs.Every.{every}
use Rattle.grammar.specs.Tree.{variable}
use Rattle.text.proofs.Bytes.{no-test, and-left, and-right}
use Rattle.text.specs.Token.{Token, symbol, slot, mark, Mark, true_word, fail_word, is_slot, TokenGood}
use Rattle.text.specs.Spelling.{is_blank, is_word_byte, is_digit, run, digits, value, negative, index_of, Found, found, nothing, begins, indexed, constant_of}
use Rattle.text.specs.Spelling.{keyword, word, negated, Sign, signs, sign_of, token_at}
use Rattle.text.specs.Tokens.{Lexed, end, no_token, next, lexed_by, lexed_from, lexed, tokens_in}

-- ---- what holds of what is found

-- if a token is found, P holds of it and its length
pub record FoundIs (P : Token → ℕ → Type 0) (r : Found) : Type 0 where
  pub holds : (t : Token) (n : ℕ) → r ≡ found t n → P t n

module _ {P : Token → ℕ → Type 0} where
  pub is-found : {t : Token} {n : ℕ} → P t n → FoundIs P (found t n)
  is-found {t} {n} p = record { holds = λ u m e. let f : t ≡ u = cc in let g : n ≡ m = cc in subst₂ P f g p }

  pub is-nothing : FoundIs P nothing
  is-nothing = record { holds = λ u m e. absurd (let z : ◌≡◌ {A = ℕ} 0 1 = cc in omega arith) }

  pub is-cond : (b : Bool) {x y : Found} → (b ≡ true → FoundIs P x) → (b ≡ false → FoundIs P y) → FoundIs P (cond b x y)
  is-cond true f g = f refl
  is-cond false f g = g refl

  pub is-when : (b : Bool) {x : Found} → (b ≡ true → FoundIs P x) → FoundIs P (cond b x nothing)
  is-when b f = is-cond b f (λ e. is-nothing)

-- the same of an index
pub record SomeIs (P : ℕ → Type 0) (o : Option ℕ) : Type 0 where
  pub holds : (i : ℕ) → o ≡ some i → P i

pub is-indexed : {P : Token → ℕ → Type 0} (token : ℕ → Token) (n : ℕ) (o : Option ℕ) → SomeIs (λ i. P (token i) n) o → FoundIs P (indexed token n o)
unfolding indexed
is-indexed token n none h = is-nothing
is-indexed token n (some i) h = is-found (h.holds i refl)

-- ---- the length of a token and that it is good

pub record Fits (bs : List ℕ) (t : Token) (n : ℕ) : Type 0 where
  pub good : TokenGood t
  pub some : 1 ≤ n
  pub within : n ≤ length bs

pub run-within : (bs : List ℕ) → run bs ≤ length bs
unfolding run
run-within [] = omega arith
run-within (b ∷ bs) = go (is_word_byte b) (run-within bs)
  where
    go : (t : Bool) → run bs ≤ length bs → cond t (suc (run bs)) 0 ≤ suc (length bs)
    go true h = omega arith
    go false h = omega arith

pub run-some : (b : ℕ) (bs : List ℕ) → is_word_byte b ≡ true → run (b ∷ bs) ≡ suc (run bs)
unfolding run
run-some b bs e = rw e

pub index-most : (most n : ℕ) (bs : List ℕ) (i : ℕ) → index_of most n bs ≡ some i → i ≤ most
unfolding index_of
index-most most n bs i = go (leb 1 n && (leb n 2 && digits n bs)) (eqb n 2 && ltb (value n bs) 10) (leb (value n bs) most) refl
  where
    none-is : {X : Type 0} → none ≡ some i → X
    none-is e = absurd (let z : ◌≡◌ {A = ℕ} 0 1 = cc in omega arith)

    go : (a b c : Bool) → leb (value n bs) most ≡ c → cond a (cond b none (cond c (some (value n bs)) none)) none ≡ some i → i ≤ most
    go true true c e f = none-is f
    go true false true e f = let s : value n bs ≡ i = cc in rw s at (leb-true (value n bs) most e)
    go true false false e f = none-is f
    go false b c e f = none-is f

pub negative-ranged : (n : ℕ) → n ≤ 2147483648 → InRange (negative n)
unfolding negative
negative-ranged zero h = pos-ranged 0 (omega arith)
negative-ranged (suc n) h = negsuc-ranged n (omega arith)

module _ (n : ℕ) (bs : List ℕ) where
  negated-fits : (b : ℕ) → n ≤ length bs → FoundIs (Fits (b ∷ bs)) (negated n bs)
  unfolding negated
  negated-fits b w =
      is-when (leb 1 n && (digits n bs && leb (value n bs) 2147483648)) λ e.
      let small = and-right (digits n bs) (leb (value n bs) 2147483648) (and-right (leb 1 n) (digits n bs && leb (value n bs) 2147483648) e) in
      is-found (record { good = negative-ranged (value n bs) (leb-true (value n bs) 2147483648 small); some = omega arith; within = omega arith })

  module _ (h : 1 ≤ n) (w : n ≤ length bs) where
    constant-fits : FoundIs (Fits bs) (constant_of n bs)
    unfolding constant_of
    constant-fits =
        is-when (digits n bs && leb (value n bs) 2147483647) λ e.
        let small = and-right (digits n bs) (leb (value n bs) 2147483647) e in
        is-found (record { good = pos-ranged (value n bs) (leb-true (value n bs) 2147483647 small); some = h; within = w })

    keyword-fits : FoundIs (Fits bs) (keyword n bs)
    unfolding keyword
    keyword-fits =
        is-cond (eqb n 4 && begins (116 ∷ 114 ∷ 117 ∷ 101 ∷ []) bs) (λ e. four true_word (and-left (eqb n 4) _ e))
        (λ f. is-when (eqb n 4 && begins (102 ∷ 97 ∷ 105 ∷ 108 ∷ []) bs) (λ e. four fail_word (and-left (eqb n 4) _ e)))
      where
        four : (m : Mark) → eqb n 4 ≡ true → FoundIs (Fits bs) (found (mark m) 4)
        four m e = let s : n ≡ 4 = eqb-true n 4 e in is-found (record { good = tt; some = omega arith; within = omega arith })

word-fits : (n : ℕ) (bs : List ℕ) → 1 ≤ n → n ≤ length bs → FoundIs (Fits bs) (word n bs)
unfolding word
word-fits n [] h w = is-nothing
word-fits n (b ∷ bs) h w =
    is-cond (eqb b 115)
    (λ e. is-indexed symbol n (index_of 31 (n - 1) bs) (record { holds = λ i f. record { good = index-most 31 (n - 1) bs i f; some = h; within = w } }))
    (λ e. is-cond (eqb b 86)
    (λ f. is-indexed (λ (v : ℕ). slot (variable v)) n (index_of 15 (n - 1) bs)
    (record { holds = λ i f. record { good = index-most 15 (n - 1) bs i f; some = h; within = w } }))
    (λ f. is-cond (is_digit b) (λ g. constant-fits n (b ∷ bs) h w) (λ g. keyword-fits n (b ∷ bs) h w)))

-- ---- signs

begins-within : (s bs : List ℕ) → begins s bs ≡ true → length s ≤ length bs
unfolding begins
begins-within [] bs e = omega arith
begins-within (s ∷ ss) [] e = no-test (sym e)
begins-within (s ∷ ss) (b ∷ bs) e = omega (arith, begins-within ss bs (and-right (eqb b s) (begins ss bs) e))

pub record SignGood (s : Sign) : Type 0 where
  pub good : TokenGood s.token
  pub some : 1 ≤ length s.spelling

sign-fits : (ss : List Sign) (bs : List ℕ) → every SignGood ss → FoundIs (Fits bs) (sign_of ss bs)
unfolding sign_of
sign-fits [] bs g = is-nothing
sign-fits (s ∷ ss) bs g =
    is-cond (begins s.spelling bs)
    (λ e. is-found (record { good = g.0.good; some = g.0.some; within = begins-within s.spelling bs e }))
    (λ e. sign-fits ss bs g.1)

signs-good : every SignGood signs
unfolding signs
signs-good = (omega arith, (omega arith, (omega arith, (omega arith, (omega arith, omega arith)))))

found-fits : (after : Bool) (bs : List ℕ) → FoundIs (Fits bs) (token_at after bs)
unfolding token_at
found-fits after [] = is-nothing
found-fits after (b ∷ bs) =
    is-cond (is_word_byte b) (λ e. word-fits (run (b ∷ bs)) (b ∷ bs) (omega (arith, run-some b bs e)) (run-within (b ∷ bs)))
    (λ e. is-cond (eqb b 45 && not after) (λ f. negated-fits (run bs) bs b (run-within bs)) (λ f. sign-fits signs (b ∷ bs) signs-good))

module _ (after : Bool) (bs : List ℕ) {t : Token} {n : ℕ} (e : token_at after bs ≡ found t n) where
  pub found-length : (1 ≤ n) × (n ≤ length bs)
  found-length = let h = (found-fits after bs).holds t n e in (h.some, h.within)

  pub found-good : TokenGood t
  found-good = ((found-fits after bs).holds t n e).good

-- ---- the steps

pub lexed-skip : (k : ℕ) (after : Bool) (p : ℕ) (bs : List ℕ) → lexed_from k after p bs ≡ lexed_from 0 after (p + k) (drop k bs)
unfolding lexed_from
lexed-skip zero after p bs = rw add-zero
lexed-skip (suc k) after p [] = refl
lexed-skip (suc k) after p (b ∷ bs) = let e : suc p + k ≡ p + suc k = omega arith in rw (← e) (lexed-skip k after (suc p) bs)

module _ (after : Bool) (p : ℕ) (b : ℕ) (bs : List ℕ) where
  pub lexed-blank : is_blank b ≡ true → lexed_from 0 after p (b ∷ bs) ≡ lexed_from 0 after (suc p) bs
  unfolding lexed_from
  lexed-blank e = rw e

  pub lexed-none : is_blank b ≡ false → token_at after (b ∷ bs) ≡ nothing → lexed_from 0 after p (b ∷ bs) ≡ no_token p
  unfolding lexed_from lexed_by
  lexed-none e f = rw (e, f)

  pub lexed-token : {t : Token} {n : ℕ} → is_blank b ≡ false → token_at after (b ∷ bs) ≡ found t n
      → lexed_from 0 after p (b ∷ bs) ≡ next p t (lexed_from 0 (is_slot t) (p + n) (drop n (b ∷ bs)))
  unfolding lexed_from lexed_by
  lexed-token {t} {n} e f = go n (found-length after (b ∷ bs) f).0 f
    where
      go : (n : ℕ) → 1 ≤ n → token_at after (b ∷ bs) ≡ found t n
          → lexed_from 0 after p (b ∷ bs) ≡ next p t (lexed_from 0 (is_slot t) (p + n) (drop n (b ∷ bs)))
      go zero h f = absurd (omega arith)
      go (suc k) h f =
          let one : suc k - 1 ≡ k = omega arith in
          let place : suc p + k ≡ p + suc k = omega arith in
          rw (e, f, one, lexed-skip k (is_slot t) (suc p) bs, place)

-- the same at a place of a text
module _ (text : List ℕ) (after : Bool) (at : ℕ) where
  pub at-end : length text ≤ at → lexed_from 0 after at (drop at text) ≡ end
  unfolding lexed_from
  at-end h = rw (drop_of_length-le text h)

  module _ (inside : at < length text) where
    front : drop at text ≡ get_or text at 0 ∷ drop (suc at) text
    front = drop-cons text at 0 inside

    pub at-blank : is_blank (get_or text at 0) ≡ true → lexed_from 0 after at (drop at text) ≡ lexed_from 0 after (at + 1) (drop (at + 1) text)
    at-blank e = rw (front, add-one at) (lexed-blank after at (get_or text at 0) (drop (suc at) text) e)

    pub at-token : {t : Token} {n : ℕ} → is_blank (get_or text at 0) ≡ false → token_at after (drop at text) ≡ found t n
        → lexed_from 0 after at (drop at text) ≡ next at t (lexed_from 0 (is_slot t) (at + n) (drop (at + n) text))
    at-token {t} {n} b e =
        rw (front, lexed-token after at (get_or text at 0) (drop (suc at) text) b (rw front at e), ← front, drop-drop)

    pub at-none : is_blank (get_or text at 0) ≡ false → token_at after (drop at text) ≡ nothing → lexed_from 0 after at (drop at text) ≡ no_token at
    at-none b e = rw front (lexed-none after at (get_or text at 0) (drop (suc at) text) b (rw front at e))

-- ---- every token has a spelling

by-cond : {A : Type 0} (P : A → Type 0) (s : Bool) (x y : A) → P x → P y → P (cond s x y)
by-cond P true x y u v = u
by-cond P false x y u v = v

lexed-from-good : (skip : ℕ) (after : Bool) (p : ℕ) (bs : List ℕ) → every TokenGood (tokens_in (lexed_from skip after p bs))
unfolding lexed_from lexed_by tokens_in
lexed-from-good skip after p [] = tt
lexed-from-good (suc skip) after p (b ∷ bs) = lexed-from-good skip after (suc p) bs
lexed-from-good zero after p (b ∷ bs) =
    by-cond (λ (l : Lexed). every TokenGood (tokens_in l)) (is_blank b)
    (lexed_from zero after (suc p) bs)
    (lexed_by p (λ n slot. lexed_from n slot (suc p) bs) (token_at after (b ∷ bs)))
    (lexed-from-good zero after (suc p) bs)
    (token (token_at after (b ∷ bs)) refl (λ n slot. lexed-from-good n slot (suc p) bs))
  where
    token : (r : Found) → token_at after (b ∷ bs) ≡ r → ((n : ℕ) (slot : Bool) → every TokenGood (tokens_in (lexed_from n slot (suc p) bs)))
        → every TokenGood (tokens_in (lexed_by p (λ n slot. lexed_from n slot (suc p) bs) r))
    token (found t n) e more = (found-good after (b ∷ bs) e, more (n - 1) (is_slot t))
    token nothing e more = tt

pub lexed-good : (text : List ℕ) → every TokenGood (tokens_in (lexed text))
unfolding lexed
lexed-good text = lexed-from-good 0 false 0 text
