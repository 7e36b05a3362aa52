-- "49 no token (its byte)": where the tokens of a text stop at a byte, the bytes before it are tokens with blanks between them, and at it, with the
-- token before it known, there is none; and the other way round. By recursion on the bytes, over those that the token before still takes.
use Prim.Native.Nat.{ℕ, zero, suc, ◌+◌, ◌-◌, ◌≤◌, ◌<◌}
use native.Mathlib.Omega.{arith}
use mathlib.Core.Path.{◌≡◌, refl, ap, ◌∙◌, subst}
use mathlib.Core.Bool.{Bool, true, false, cond}
use mathlib.Core.Option.{Option, none, some}
use mathlib.Core.List.{List, [], ◌∷◌}
use lib.ListN.{length, get_or, drop, length-drop}
use lib.Seq.{drop-drop, get_or-drop}
use Rattle.text.specs.Token.{Token, is_slot}
use Rattle.text.specs.Spelling.{is_blank, Found, found, nothing, token_at}
use Rattle.text.specs.Tokens.{Lexed, end, no_token, next, lexed_by, lexed_from, lexed}
use Rattle.text.proofs.Lexing.{found-length, lexed-blank, lexed-token, lexed-none}

-- where the tokens stop short of the end
unfoldable pub stops_at : Lexed → Option ℕ
stops_at end = none
stops_at (no_token p) = some p
stops_at (next p t more) = stops_at more

-- `Parts after bytes tokens last rest`: the bytes are these tokens, with blanks between them, and the rest. `after` and `last` say whether the token
-- before the bytes and the token before the rest is a constant or a variable
pub data Parts : Bool → List ℕ → List Token → Bool → List ℕ → Type 0 where
  here : {after : Bool} {bs : List ℕ} → Parts after bs [] after bs
  blank : {after last : Bool} {b : ℕ} {bs rest : List ℕ} {ts : List Token} → is_blank b ≡ true → Parts after bs ts last rest → Parts after (b ∷ bs) ts last rest
  token : {after last : Bool} {b n : ℕ} {bs rest : List ℕ} {t : Token} {ts : List Token} → is_blank b ≡ false → token_at after (b ∷ bs) ≡ found t n
      → Parts (is_slot t) (drop n (b ∷ bs)) ts last rest → Parts after (b ∷ bs) (t ∷ ts) last rest

-- at place m of some bytes there is no token
pub record NoToken (after : Bool) (bs : List ℕ) (m : ℕ) : Type 0 where
  pub inside : m < length bs
  pub tokens : List Token
  pub last : Bool
  pub parts : Parts after bs tokens last (drop m bs)
  pub no_blank : is_blank (get_or bs m 0) ≡ false
  pub none : token_at last (drop m bs) ≡ nothing

-- ---- where they stop, there is none

-- the same of the bytes from place p on
record Stops (after : Bool) (bs : List ℕ) (p q : ℕ) : Type 0 where
  m : ℕ
  place : q ≡ p + m
  at : NoToken after bs m

none-some : {X : Type 0} {q : ℕ} → ◌≡◌ {A = Option ℕ} none (some q) → X
none-some e = absurd (let z : ◌≡◌ {A = ℕ} 0 1 = cc in omega arith)

stops-blank : {after : Bool} {b p q : ℕ} {bs : List ℕ} → is_blank b ≡ true → Stops after bs (suc p) q → Stops after (b ∷ bs) p q
stops-blank e s =
    let h = s.at in
    record {
      m = suc s.m;
      place = let l = s.place in omega arith;
      at = record {
        inside = let l = h.inside in omega arith;
        tokens = h.tokens;
        last = h.last;
        parts = blank e h.parts;
        no_blank = h.no_blank;
        none = h.none;
      };
    }

stops-token : {after : Bool} {b p q n : ℕ} {bs : List ℕ} {t : Token} → is_blank b ≡ false → token_at after (b ∷ bs) ≡ found t n
    → Stops (is_slot t) (drop (n - 1) bs) (suc p + (n - 1)) q → Stops after (b ∷ bs) p q
stops-token {after} {b} {p} {q} {n} {bs} {t} e f s = go n (found-length after (b ∷ bs) f).0 f s
  where
    go : (n : ℕ) → 1 ≤ n → token_at after (b ∷ bs) ≡ found t n → Stops (is_slot t) (drop (n - 1) bs) (suc p + (n - 1)) q → Stops after (b ∷ bs) p q
    go zero h f s = absurd (omega arith)
    go (suc k) h f s' =
        let one : suc k - 1 ≡ k = omega arith in
        let s : Stops (is_slot t) (drop k bs) (suc p + k) q = rw one at s' in
        let none-at = s.at in
        record {
          m = suc (k + s.m);
          place = let l = s.place in omega arith;
          at = record {
            inside = let l = none-at.inside in let d = length-drop k bs in omega arith;
            tokens = t ∷ none-at.tokens;
            last = none-at.last;
            parts = token {n = suc k} e f (rw drop-drop at none-at.parts);
            no_blank = rw get_or-drop at none-at.no_blank;
            none = rw drop-drop at none-at.none;
          };
        }

module _ (after : Bool) (p q b : ℕ) (bs : List ℕ)
    (more : (k : ℕ) (a : Bool) → stops_at (lexed_from k a (suc p) bs) ≡ some q → Stops a (drop k bs) (suc p + k) q) where
  stops-found : (r : Found) → token_at after (b ∷ bs) ≡ r → is_blank b ≡ false
      → stops_at (lexed_by p (λ n slot. lexed_from n slot (suc p) bs) r) ≡ some q → Stops after (b ∷ bs) p q
  unfolding stops_at lexed_by
  stops-found (found t n) g f e = stops-token f g (more (n - 1) (is_slot t) e)
  stops-found nothing g f e =
      record {
        m = 0;
        place = let s : p ≡ q = cc in omega arith;
        at = record { inside = omega arith; tokens = []; last = after; parts = here; no_blank = f; none = g };
      }

  stops-other : (s : Bool) → is_blank b ≡ s
      → stops_at (cond s (lexed_from 0 after (suc p) bs) (lexed_by p (λ n slot. lexed_from n slot (suc p) bs) (token_at after (b ∷ bs)))) ≡ some q
      → Stops after (b ∷ bs) p q
  stops-other true f e = let y : suc p + 0 ≡ suc p = omega arith in stops-blank f (rw y at (more 0 after e))
  stops-other false f e = stops-found (token_at after (b ∷ bs)) refl f e

  stops-step : stops_at (lexed_from 0 after p (b ∷ bs)) ≡ some q → Stops after (b ∷ bs) (p + 0) q
  unfolding lexed_from
  stops-step e = let z : p + 0 ≡ p = omega arith in rw z (stops-other (is_blank b) refl e)

stops-suc : (k : ℕ) (after : Bool) (p q b : ℕ) (bs : List ℕ) → Stops after (drop k bs) (suc p + k) q → Stops after (drop k bs) (p + suc k) q
stops-suc k after p q b bs s = let e : suc p + k ≡ p + suc k = omega arith in rw e at s

stops-end : (k : ℕ) (after : Bool) (p q : ℕ) → stops_at (lexed_from k after p []) ≡ some q → Stops after (drop k []) (p + k) q
unfolding lexed_from stops_at
stops-end k after p q e = none-some e

stops-from : (bs : List ℕ) (k : ℕ) (after : Bool) (p q : ℕ) → stops_at (lexed_from k after p bs) ≡ some q → Stops after (drop k bs) (p + k) q
unfolding lexed_from
stops-from [] k after p q e = stops-end k after p q e
stops-from (b ∷ bs) zero after p q e = stops-step after p q b bs (λ k a f. stops-from bs k a (suc p) q f) e
stops-from (b ∷ bs) (suc k) after p q e = stops-suc k after p q b bs (stops-from bs k after (suc p) q e)

pub stops-none : (text : List ℕ) (p : ℕ) → stops_at (lexed text) ≡ some p → NoToken false text p
unfolding lexed
stops-none text p e =
    let s = stops-from text 0 false 0 p e in
    let place : s.m ≡ p = let l = s.place in omega arith in
    subst (NoToken false text) place s.at

-- ---- and where there is none, they stop

here-stops : (after : Bool) (p : ℕ) (bs : List ℕ) → 1 ≤ length bs → is_blank (get_or bs 0 0) ≡ false → token_at after bs ≡ nothing
    → stops_at (lexed_from 0 after p bs) ≡ some p
unfolding stops_at
here-stops after p [] h e f = absurd (omega arith)
here-stops after p (b ∷ bs) h e f = rw (lexed-none after p b bs e f)

record Found_at (after : Bool) (p : ℕ) (bs rest : List ℕ) : Type 0 where
  stops : stops_at (lexed_from 0 after p bs) ≡ some (p + (length bs - length rest))
  shorter : length rest ≤ length bs

parts-stop : (p : ℕ) {after last : Bool} {bs rest : List ℕ} {ts : List Token} → Parts after bs ts last rest → 1 ≤ length rest
    → is_blank (get_or rest 0 0) ≡ false → token_at last rest ≡ nothing → Found_at after p bs rest
unfolding stops_at
parts-stop p (here {after} {bs}) h e f =
    record { stops = here-stops after p bs h e f ∙ ap some (omega arith); shorter = omega arith }
parts-stop p (blank {after} {last} {b} {bs} {rest} i ps) h e f =
    let s = parts-stop (suc p) ps h e f in
    let l = s.shorter in
    record { stops = rw (lexed-blank after p b bs i) (s.stops ∙ ap some (omega arith)); shorter = omega arith }
parts-stop p (token {after} {last} {b} {n} {bs} {rest} {t} i g ps) h e f =
    let s = parts-stop (p + n) ps h e f in
    let l = s.shorter in
    let w = (found-length after (b ∷ bs) g).1 in
    let d = length-drop n (b ∷ bs) in
    record { stops = rw (lexed-token after p b bs i g) (s.stops ∙ ap some (omega arith)); shorter = omega arith }

pub none-stops : (text : List ℕ) (p : ℕ) → NoToken false text p → stops_at (lexed text) ≡ some p
unfolding lexed
none-stops text p n =
    let h = n.inside in
    let d = length-drop p text in
    let z : p + 0 ≡ p = omega arith in
    let first : is_blank (get_or (drop p text) 0 0) ≡ false = rw (get_or-drop p text 0 0, z) n.no_blank in
    (parts-stop 0 n.parts (omega arith) first n.none).stops ∙ ap some (omega arith)
