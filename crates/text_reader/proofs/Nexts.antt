-- The next token of a text, behind blanks: each step of lexing is one of the laws of crate text.
use Prim.Native.Nat.{ℕ, suc, ◌+◌, ◌-◌, ◌<◌, ◌≤◌}
use mathlib.Core.Path.{◌≡◌, refl, sym, ◌∙◌}
use mathlib.Core.Bool.{Bool, true, false, not}
use mathlib.Core.List.{List, [], ◌∷◌}
use native.Mathlib.Omega.{arith}
use native.Mathlib.Nat.{add-zero}
use lib.Dec.{ltb}
use lib.ListN.{length, drop, get_or, take, length-drop, drop_of_length-le}
use lib.Seq.{take-length}
use borrow.Author.Tests.{ltb-true, ltb-false}
use Rattle.std.specs.Prelude.{Option, Some, None, Result, Ok, Err, position}
use Rattle.std.specs.List.{position_or_len}
use Rattle.model.specs.declared.Reason.TheVariants.{NoToken}
use Rattle.model.specs.declared.Refusal.{Refusal}
use Rattle.text.specs.Token.{Token, is_slot}
use Rattle.text.specs.Spelling.{found, nothing, is_blank, token_at}
use Rattle.text.specs.Tokens.{no_token, next, lexed_from}
use Rattle.text.proofs.Lexing.{lexed-blank, lexed-token, lexed-none, found-length}
use Rattle.tokens.specs.Views.{token_of}
use Rattle.tokens.specs.declared.Spelled.{Spelled}
use Rattle.text_reader.specs.declared.lexing.Placed.{Placed}
use Rattle.text_reader.specs.declared.lexing.Tokens.{Tokens}
use Rattle.text_reader.specs.Lexing.{lexed_in, NextIs}

-- ---- blanks

abbrev bare : ℕ → Bool
bare b = not (is_blank b)

abbrev blanks : List ℕ → ℕ
blanks bs = position_or_len bare bs

lexed-blanks : (after : Bool) (at : ℕ) (bs : List ℕ) → lexed_from 0 after at bs ≡ lexed_from 0 after (at + blanks bs) (drop (blanks bs) bs)
lexed-blanks after at [] = rw add-zero
lexed-blanks after at (b ∷ bs) = go (is_blank b) refl (lexed-blanks after (suc at) bs)
  where
    go : (t : Bool) → is_blank b ≡ t → lexed_from 0 after (suc at) bs ≡ lexed_from 0 after (suc at + blanks bs) (drop (blanks bs) bs)
        → lexed_from 0 after at (b ∷ bs) ≡ lexed_from 0 after (at + blanks (b ∷ bs)) (drop (blanks (b ∷ bs)) (b ∷ bs))
    go true e ih =
        let one : 1 + blanks bs ≡ suc (blanks bs) = omega arith in
        let on : suc at + blanks bs ≡ at + suc (blanks bs) = omega arith in
        lexed-blank after at b bs e ∙ ih ∙ rw (e, one, on)
    go false e ih = rw (e, add-zero)

bare-there : (bs : List ℕ) → blanks bs < length bs → is_blank (get_or (drop (blanks bs) bs) 0 0) ≡ false
bare-there [] h = absurd (omega arith)
bare-there (b ∷ bs) h = go (is_blank b) refl (bare-there bs) h
  where
    go : (t : Bool) → is_blank b ≡ t → (blanks bs < length bs → is_blank (get_or (drop (blanks bs) bs) 0 0) ≡ false) → blanks (b ∷ bs) < length (b ∷ bs)
        → is_blank (get_or (drop (blanks (b ∷ bs)) (b ∷ bs)) 0 0) ≡ false
    go true e ih h =
        let one : 1 + blanks bs ≡ suc (blanks bs) = omega arith in
        let l : 1 + blanks bs < suc (length bs) = rw e at h in
        rw (e, one) (ih (omega arith))
    go false e ih h = rw e e

first-there : (bs : List ℕ) {k : ℕ} → Some k ≡ position bare bs → (blanks bs ≡ k) × (k < length bs)
first-there bs {k} e = go (ltb (blanks bs) (length bs)) refl
  where
    go : (t : Bool) → ltb (blanks bs) (length bs) ≡ t → (blanks bs ≡ k) × (k < length bs)
    go true p =
        let same : ◌≡◌ {A = Option ℕ} (Some k) (Some (blanks bs)) = rw p at e in
        let is : blanks bs ≡ k = cc in
        (is, rw (← is) (ltb-true (blanks bs) (length bs) p))
    go false p = absurd (let none : ◌≡◌ {A = Option ℕ} (Some k) None = rw p at e in cc)

no-first : (bs : List ℕ) → None ≡ position bare bs → length bs ≤ blanks bs
no-first bs e = go (ltb (blanks bs) (length bs)) refl
  where
    go : (t : Bool) → ltb (blanks bs) (length bs) ≡ t → length bs ≤ blanks bs
    go true p = absurd (let none : ◌≡◌ {A = Option ℕ} None (Some (blanks bs)) = rw p at e in cc)
    go false p = ltb-false (blanks bs) (length bs) p

-- ---- a token at the front

token-front : (after : Bool) (p : ℕ) (bs : List ℕ) {t : Token} {n : ℕ} → 1 ≤ length bs → is_blank (get_or bs 0 0) ≡ false → token_at after bs ≡ found t n
    → lexed_from 0 after p bs ≡ next p t (lexed_from 0 (is_slot t) (p + n) (drop n bs))
token-front after p [] h b e = absurd (omega arith)
token-front after p (x ∷ bs) h b e = lexed-token after p x bs b e

none-front : (after : Bool) (p : ℕ) (bs : List ℕ) → 1 ≤ length bs → is_blank (get_or bs 0 0) ≡ false → token_at after bs ≡ nothing
    → lexed_from 0 after p bs ≡ no_token p
none-front after p [] h b e = absurd (omega arith)
none-front after p (x ∷ bs) h b e = lexed-none after p x bs b e

-- the bytes from k on, as the code has them
abbrev from : ℕ → List ℕ → List ℕ
from k bs = take (length bs - k) (drop k bs)

from-is : (k : ℕ) (bs : List ℕ) → from k bs ≡ drop k bs
from-is k bs = rw (← length-drop k bs) (take-length (drop k bs))

module _ (before : Tokens) where
  pub next_end : {r : Option (Result Placed Refusal)} → r ≡ None → None ≡ position bare before.rest.now → NextIs before before r
  unfolding lexed_from
  next_end gone e =
      let over = no-first before.rest.now e in
      rw gone (record {
        same = lexed-blanks before.after before.at before.rest.now ∙ rw (drop_of_length-le before.rest.now over);
        good = tt;
      })

  module _ {k : ℕ} (e : Some k ≡ position bare before.rest.now) where
    there : lexed_in before ≡ lexed_from 0 before.after (before.at + k) (drop k before.rest.now)
    there = let is = (first-there before.rest.now e).0 in lexed-blanks before.after before.at before.rest.now ∙ rw is

    is-bare : is_blank (get_or (drop k before.rest.now) 0 0) ≡ false
    is-bare = let h = first-there before.rest.now e in rw (← h.0) (bare-there before.rest.now (omega (arith, h.0, h.1)))

    some-left : 1 ≤ length (drop k before.rest.now)
    some-left = omega (arith, (first-there before.rest.now e).1, length-drop k before.rest.now)

    pub inside : k < length before.rest.now
    inside = (first-there before.rest.now e).1

    pub next_strange : {r : Refusal} → nothing ≡ token_at before.after (from k before.rest.now) → r ≡ record { reason = NoToken; place = before.at + k }
        → NextIs before before (Some (Err r))
    next_strange none is =
        rw is (record {
          same = there ∙ none-front before.after (before.at + k) (drop k before.rest.now) some-left is-bare (rw (← from-is k before.rest.now) (sym none));
          good = refl;
        })

    pub next_token : {after : Tokens} {s : Spelled} → found (token_of s.token) s.length ≡ token_at before.after (from k before.rest.now)
        → after.rest.now ≡ from s.length (from k before.rest.now) → after.at ≡ before.at + k + s.length → after.after ≡ is_slot (token_of s.token)
        → NextIs before after (Some (Ok (record { place = before.at + k; token = s.token })))
    next_token {after} {s} spelled rest at slot =
        let here : token_at before.after (drop k before.rest.now) ≡ found (token_of s.token) s.length = rw (← from-is k before.rest.now) (sym spelled) in
        let long = found-length before.after (drop k before.rest.now) here in
        let left : after.rest.now ≡ drop s.length (drop k before.rest.now) =
        rest ∙ rw (from-is k before.rest.now) (from-is s.length (drop k before.rest.now)) in
        let less = length-drop s.length (drop k before.rest.now) in
        let behind = length-drop k before.rest.now in
        let fewer : length (drop s.length (drop k before.rest.now)) < length before.rest.now = omega (arith, long, less, behind, inside) in
        let all : before.at + k + s.length + length (drop s.length (drop k before.rest.now)) ≡ before.at + length before.rest.now =
        omega (arith, long, less, behind, inside) in
        record {
          same = there ∙ token-front before.after (before.at + k) (drop k before.rest.now) some-left is-bare here ∙ rw (left, at, slot);
          good = rw (left, at) (fewer, (omega (arith, long), all));
        }

pub ruleset next_rules = (next_end, next_strange, inside)
