-- Texts that are written one behind the other are one text that is written, and a text that goes on is what is left of the whole.
use Prim.Native.Nat.{ℕ, suc, ◌+◌, ◌≤◌, ◌<◌}
use mathlib.Core.Path.{◌≡◌, refl, sym, ap, ◌∙◌}
use mathlib.Core.Bool.{Bool, true, false}
use mathlib.Core.List.{List, [], ◌∷◌, ◌++◌}
use native.Mathlib.Omega.{arith}
use lib.Dec.{ltb}
use lib.ListN.{length, drop, set, length-append}
use lib.Seq.{sets-eq}
use borrow.Author.Tests.{ltb-true, ltb-false}
use Rattle.text_writing.specs.declared.Page.{Page}
use Rattle.text_writing.specs.Written.{written, Put}

pub written-none : (at : ℕ) (s : List ℕ) → written at [] s ≡ s
unfolding written
written-none at s = refl

pub written-append : (at : ℕ) (xs ys s : List ℕ) → written at (xs ++ ys) s ≡ written (at + length xs) ys (written at xs s)
unfolding written
written-append at [] ys s = let e : at + 0 ≡ at = omega arith in rw e
written-append at (x ∷ xs) ys s = let e : at + suc (length xs) ≡ suc at + length xs = omega arith in rw e (written-append (suc at) xs ys (set s at x))

-- where the whole text fits, it stands at the front, and what lies behind it is kept
pub written-front : (bytes s : List ℕ) → length bytes ≤ length s → written 0 bytes s ≡ bytes ++ drop (length bytes) s
unfolding written
written-front bytes s h = let e : 0 + length bytes ≡ length bytes = omega arith in sets-eq bytes s 0 (omega arith) ∙ rw e

-- by cases on a test
pub less-or-not : (P : Type 0) (m n : ℕ) → (m < n → P) → (n ≤ m → P) → P
less-or-not P m n f g = go (ltb m n) refl
  where
    go : (b : Bool) → ltb m n ≡ b → P
    go true e = f (ltb-true m n e)
    go false e = g (ltb-false m n e)

-- ---- one text, two, and none

module _ {p q : Page} {xs : List ℕ} {m : ℕ} (a : Put p xs m q) where
  -- the same bytes, and a greater bound
  pub put-as : {whole : List ℕ} {most : ℕ} → xs ≡ whole → m ≤ most → Put p whole most q
  put-as e h =
      let l = ap length e in
      record {
        place = omega (arith, a.place, l);
        same = a.same ∙ ap (λ bytes. written p.at bytes p.text.now) e;
        few = omega (arith, a.few, l);
        buffer = a.buffer;
      }

  pub put-told : {whole : List ℕ} {most : ℕ} → xs ≡ whole → length whole ≤ most → Put p whole most q
  put-told {whole} e h = let b : Put p whole m q = put-as e (omega arith) in record { place = b.place; same = b.same; few = h; buffer = b.buffer }

  pub put-both : {ys : List ℕ} {n : ℕ} {r : Page} → Put q ys n r → (whole : List ℕ) (most : ℕ) → xs ++ ys ≡ whole → m + n ≤ most → Put p whole most r
  put-both {ys} b whole most e h =
      let l : length xs + length ys ≡ length whole = sym (length-append xs ys) ∙ ap length e in
      record {
        place = omega (arith, a.place, b.place, l);
        same = b.same ∙ rw (a.place, a.same, ← e) (sym (written-append p.at xs ys p.text.now));
        few = omega (arith, a.few, b.few, l);
        buffer = b.buffer ∙ a.buffer;
      }

pub put-none : (p : Page) {whole : List ℕ} (most : ℕ) → [] ≡ whole → Put p whole most p
put-none p most e =
    let l = ap length e in
    record {
      place = omega (arith, l);
      same = sym (written-none p.at p.text.now) ∙ ap (λ bytes. written p.at bytes p.text.now) e;
      few = omega (arith, l);
      buffer = refl;
    }

-- ---- what is left of a text: to write it makes the page what the whole text makes of the one that came

pub record Rest (p : Page) (whole : List ℕ) (q : Page) (rest : List ℕ) : Type 0 where
  pub place : q.at + length rest ≡ p.at + length whole
  pub same : written q.at rest q.text.now ≡ written p.at whole p.text.now
  pub buffer : q.text.ghost_name ≡ p.text.ghost_name

pub rest-all : (p : Page) (whole : List ℕ) → Rest p whole p whole
rest-all p whole = record { place = refl; same = refl; buffer = refl }

module _ {p : Page} {whole : List ℕ} {q : Page} {rest : List ℕ} (r : Rest p whole q rest) where
  pub rest-more : {xs : List ℕ} {m : ℕ} {u : Page} → Put q xs m u → (later : List ℕ) → rest ≡ xs ++ later → Rest p whole u later
  rest-more {xs} a later e =
      let l : length rest ≡ length xs + length later = ap length e ∙ length-append xs later in
      record {
        place = omega (arith, r.place, a.place, l);
        same = rw (a.place, a.same) (sym (written-append q.at xs later q.text.now) ∙ ap (λ bytes. written q.at bytes q.text.now) (sym e)) ∙ r.same;
        buffer = a.buffer ∙ r.buffer;
      }

  pub rest-none : (most : ℕ) → rest ≡ [] → length whole ≤ most → Put p whole most q
  rest-none most e h =
      let l = ap length e in
      record {
        place = omega (arith, r.place, l);
        same = sym (written-none q.at q.text.now) ∙ ap (λ bytes. written q.at bytes q.text.now) (sym e) ∙ r.same;
        few = h;
        buffer = r.buffer;
      }
