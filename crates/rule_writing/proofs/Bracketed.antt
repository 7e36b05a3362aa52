-- Texts parted by commas, and in brackets: written one after the other, each behind what stands before it, they are the list. That no argument was written yet
-- is seen by the place, since the first one moves it.
use Prim.Native.Nat.{ℕ, suc, ◌+◌, ◌*◌, ◌≤◌, ◌<◌}
use mathlib.Core.Path.{◌≡◌, refl, sym, ap, ◌∙◌}
use mathlib.Core.Bool.{true, false}
use mathlib.Core.List.{List, [], ◌∷◌, ◌++◌, append_assoc, append-nil}
use native.Mathlib.Omega.{arith}
use native.Mathlib.Nat.{mul-suc, mul-le-mul_left}
use lib.Dec.{eqb}
use lib.ListN.{length, get_or, take}
use borrow.Author.Tests.{eq-eqb, ne_eqb}
use Rattle.std.proofs.lemmas.List.{take_more}
use Rattle.model.proofs.Lists.{never}
use Rattle.grammar.specs.Layout.{used_of}
use Rattle.text.specs.Token.{comma}
use Rattle.text.specs.Printed.{mark_text}
use Rattle.text_writing.specs.declared.Page.{Page}
use Rattle.text_writing.specs.Written.{Put}
use Rattle.text_writing.specs.Parts.{more_text, list_text, open_text, close_text, bracket_text, some, first_text, separator_text}
use Rattle.text_writing.proofs.Writes.{put-as, put-both, put-none}

-- ---- one more of a list

more-snoc : (xs : List (List ℕ)) (y : List ℕ) → more_text (xs ++ (y ∷ [])) ≡ more_text xs ++ (mark_text comma ++ y)
unfolding more_text mark_text
more-snoc [] y = append-nil (mark_text comma ++ y)
more-snoc (x ∷ xs) y =
    ap (λ (l : List ℕ). mark_text comma ++ (x ++ l)) (more-snoc xs y)
    ∙ sym (append_assoc (mark_text comma) (x ++ more_text xs) (mark_text comma ++ y)
    ∙ ap (λ (l : List ℕ). mark_text comma ++ l) (append_assoc x (more_text xs) (mark_text comma ++ y)))

-- what stands between those that are written and the next one
abbrev pub between : List (List ℕ) → List ℕ
between [] = []
between (x ∷ xs) = mark_text comma

list-snoc : (xs : List (List ℕ)) (y : List ℕ) → list_text xs ++ (between xs ++ y) ≡ list_text (xs ++ (y ∷ []))
unfolding list_text more_text
list-snoc [] y = sym (append-nil y)
list-snoc (x ∷ xs) y = append_assoc x (more_text xs) (mark_text comma ++ y) ∙ ap (λ (l : List ℕ). x ++ l) (sym (more-snoc xs y))

module _ (done : List (List ℕ)) {p q : Page} where
  pub begun : length done ≤ 0 → q ≡ p → Put p (between done) 2 q
  begun h e = rw e (go done h)
    where
      go : (xs : List (List ℕ)) → length xs ≤ 0 → Put p (between xs) 2 p
      go [] h = put-none p 2 refl
      go (x ∷ xs) h = absurd (omega arith)

  pub parted : 0 < length done → Put p (44 ∷ 32 ∷ []) 2 q → Put p (between done) 2 q
  unfolding mark_text
  parted h a = go done h
    where
      go : (xs : List (List ℕ)) → 0 < length xs → Put p (between xs) 2 q
      go [] h = absurd (omega arith)
      go (x ∷ xs) h = a

pub list-more : (done : List (List ℕ)) (y : List ℕ) {m n : ℕ} {p q u v : Page} → Put p (list_text done) n q → Put q (between done) 2 u → Put u y m v
    → Put p (list_text (done ++ (y ∷ []))) (n + (2 + m)) v
list-more done y {m} {n} a b c =
    put-both a (put-both b c _ (2 + m) refl (omega arith)) (list_text (done ++ (y ∷ []))) (n + (2 + m)) (list-snoc done y) (omega arith)

-- ---- the room of one more, of at most `unit` bytes

pub unit-more : (unit i : ℕ) → unit * (i + 1) ≡ unit * i + unit
unit-more unit i = let e : i + 1 ≡ suc i = omega arith in rw e (mul-suc unit i)

pub unit-room : (unit i n : ℕ) → i < n → unit * i + unit ≤ unit * n
unit-room unit i n h = rw (← unit-more unit i) (mul-le-mul_left unit (omega arith))

-- ---- brackets

module _ {p q : Page} {start : ℕ} where
  pub opening : p.at ≡ start → Put p (40 ∷ []) 1 q → Put p (separator_text (eqb p.at start)) 2 q
  unfolding separator_text
  opening e a = put-as a (rw (eq-eqb p.at start e)) (omega arith)

  pub following : (p.at ≡ start → ⊥) → Put p (44 ∷ 32 ∷ []) 2 q → Put p (separator_text (eqb p.at start)) 2 q
  unfolding separator_text mark_text
  following d a = put-as a (rw (ne_eqb p.at start d)) (omega arith)

open-snoc : (xs : List (List ℕ)) (at : ℕ) (y : List ℕ)
    → open_text xs ++ (separator_text (eqb (at + length (open_text xs)) at) ++ y) ≡ open_text (xs ++ (y ∷ []))
unfolding open_text more_text separator_text
open-snoc [] at y = rw (eq-eqb (at + 0) at (omega arith)) (ap (λ (l : List ℕ). 40 ∷ l) (sym (append-nil y)))
open-snoc (x ∷ xs) at y =
    rw (ne_eqb (at + length (40 ∷ (x ++ more_text xs))) at (λ e. omega arith))
    (ap (λ (l : List ℕ). 40 ∷ l) (append_assoc x (more_text xs) (mark_text comma ++ y) ∙ ap (λ (l : List ℕ). x ++ l) (sym (more-snoc xs y))))

-- of those that are written, `xs`, and of the next place, `ys`
module _ (xs ys : List (List ℕ)) {n : ℕ} {p q : Page} (a : Put p (open_text xs) n q) where
  pub argument-none : some ys ≡ false → {most : ℕ} → n ≤ most → Put p (open_text (xs ++ ys)) most q
  unfolding some
  argument-none e h = put-as a (ap open_text (go ys e)) h
    where
      go : (ys : List (List ℕ)) → some ys ≡ false → xs ≡ xs ++ ys
      go [] e = sym (append-nil xs)
      go (y ∷ ys) e = never e

  argument-one : some ys ≡ true → length ys ≤ 1 → ys ≡ first_text ys ∷ []
  unfolding some first_text
  argument-one e h = go ys e h
    where
      go : (ys : List (List ℕ)) → some ys ≡ true → length ys ≤ 1 → ys ≡ first_text ys ∷ []
      go [] e h = never (sym e)
      go (y ∷ []) e h = refl
      go (y ∷ (z ∷ zs)) e h = absurd (omega arith)

  pub argument-some : some ys ≡ true → length ys ≤ 1 → {m : ℕ} {u v : Page} → Put q (separator_text (eqb q.at p.at)) 2 u → Put u (first_text ys) m v
      → {most : ℕ} → n + (2 + m) ≤ most → Put p (open_text (xs ++ ys)) most v
  argument-some e f {m} b c h =
      put-both a (put-both b c _ (2 + m) refl (omega arith)) (open_text (xs ++ ys)) _
      (rw a.place (open-snoc xs p.at (first_text ys)) ∙ ap (λ (zs : List (List ℕ)). open_text (xs ++ zs)) (sym (argument-one e f))) h

-- the closing one, where there is any
module _ (xs : List (List ℕ)) {n : ℕ} {p q : Page} (a : Put p (open_text xs) n q) where
  none-open : (xs : List (List ℕ)) → length (open_text xs) ≡ 0 → open_text xs ≡ bracket_text xs
  unfolding open_text close_text bracket_text
  none-open [] e = refl
  none-open (x ∷ xs) e = absurd (omega arith)

  some-open : (xs : List (List ℕ)) → (length (open_text xs) ≡ 0 → ⊥) → open_text xs ++ (41 ∷ []) ≡ bracket_text xs
  unfolding open_text close_text bracket_text
  some-open [] d = absurd (d refl)
  some-open (x ∷ xs) d = refl

  pub unclosed : q.at ≡ p.at → Put p (bracket_text xs) (n + 1) q
  unclosed e = put-as a (none-open xs (omega (arith, a.place))) (omega arith)

  pub closed : (q.at ≡ p.at → ⊥) → {r : Page} → Put q (41 ∷ []) 1 r → Put p (bracket_text xs) (n + 1) r
  closed d b = put-both a b (bracket_text xs) (n + 1) (some-open xs (λ e. d (omega (arith, a.place)))) (omega arith)

-- the texts of the places before an index, and one more
module _ {A : Type 0} (texts : A → List (List ℕ)) where
  used-append : (xs : List A) (x : A) → used_of texts (xs ++ (x ∷ [])) ≡ used_of texts xs ++ texts x
  unfolding used_of
  used-append [] x = append-nil (texts x)
  used-append (a ∷ xs) x = ap (λ (l : List (List ℕ)). texts a ++ l) (used-append xs x) ∙ sym (append_assoc (texts a) (used_of texts xs) (texts x))

  pub used-more : (xs : List A) (i : ℕ) (x : A) → i < length xs → x ≡ get_or xs i x → used_of texts (take i xs) ++ texts x ≡ used_of texts (take (i + 1) xs)
  used-more xs i x h e =
      sym (ap (used_of texts) (take_more xs i x h ∙ ap (λ (y : A). take i xs ++ (y ∷ [])) (sym e)) ∙ used-append (take i xs) x)
