-- Parts of a kind, one behind the other in a table's bytes: those that are written, and those that are left.
use Prim.Native.Nat.{ℕ, suc, ◌+◌, ◌-◌, ◌*◌, ◌≤◌, ◌<◌}
use mathlib.Core.Path.{◌≡◌, refl, sym, ap, ◌∙◌}
use mathlib.Core.List.{List, [], ◌∷◌, ◌++◌, append_assoc, append-nil}
use native.Mathlib.Omega.{arith}
use lib.ListN.{length, length-append}
use Rattle.text_writing.specs.declared.Page.{Page}
use Rattle.text_writing.specs.Written.{Put}
use Rattle.text_writing.specs.Parts.{list_text}
use Rattle.text_writing.proofs.Writes.{put-as, put-none}
use Rattle.rule_writing.proofs.Bracketed.{between, list-more, unit-more}

module _ (Lie : List ℕ → ℕ → ℕ → Type 0) (texts : List ℕ → ℕ → ℕ → List (List ℕ)) where
  -- of n parts from `from` on the first i are written on the page p, of at most `unit` bytes each with what parts them, which made it q; the others lie
  -- from `at` on
  pub record Listed (unit : ℕ) (t : List ℕ) (from n : ℕ) (p : Page) (i at : ℕ) (q : Page) : Type 0 where
    pub done : List (List ℕ)
    pub count : length done ≡ i
    pub all : done ++ texts t at (n - i) ≡ texts t from n
    pub lie : Lie t at (n - i)
    pub put : Put p (list_text done) (unit * i) q

  module _ {unit : ℕ} {t : List ℕ} {from n : ℕ} {p : Page} where
    pub listed-none : Lie t from n → Listed unit t from n p 0 from p
    unfolding list_text
    listed-none l = let e : n - 0 ≡ n = omega arith in record { done = []; count = refl; all = rw e; lie = rw e l; put = put-none p (unit * 0) refl }

    module _ {i at : ℕ} {q : Page} (l : Listed unit t from n p i at q) where
      pub listed-all : ((t : List ℕ) (p : ℕ) → texts t p 0 ≡ []) → n ≤ i → i ≤ n → Put p (list_text (texts t from n)) (unit * n) q
      listed-all none h k =
          let e : n - i ≡ 0 = omega arith in
          let same : i ≡ n = omega arith in
          let last : texts t at (n - i) ≡ [] = rw e (none t at) in
          put-as l.put (ap list_text (sym (append-nil l.done) ∙ ap (λ (xs : List (List ℕ)). l.done ++ xs) (sym last) ∙ l.all)) (rw same (omega arith))

-- the next one: it lies there, and it is one more
module _ (text : List ℕ → ℕ → List ℕ) (behind : List ℕ → ℕ → ℕ) (Lie : List ℕ → ℕ → ℕ → Type 0) (texts : List ℕ → ℕ → ℕ → List (List ℕ))
    {unit : ℕ} {t : List ℕ} {from n : ℕ} {p : Page} {i at : ℕ} {q : Page} (l : Listed Lie texts unit t from n p i at q) (h : i < n) where
  one-more : n - i ≡ suc (n - (i + 1))
  one-more = omega arith

  pub next-lies : ((t : List ℕ) (p n : ℕ) → Lie t p (suc n) → Lie t p 1 × Lie t (behind t p) n) → Lie t at 1 × Lie t (behind t at) (n - (i + 1))
  next-lies first_lies = first_lies t at (n - (i + 1)) (rw one-more at l.lie)

  pub listed-more : ((t : List ℕ) (p n : ℕ) → texts t p (suc n) ≡ text t p ∷ texts t (behind t p) n) → Lie t (behind t at) (n - (i + 1))
      → {most : ℕ} {u v : Page} → Put q (between l.done) 2 u → Put u (text t at) most v → 2 + most ≤ unit
      → Listed Lie texts unit t from n p (i + 1) (behind t at) v
  listed-more first lie a b few =
      let rest : texts t at (n - i) ≡ text t at ∷ texts t (behind t at) (n - (i + 1)) = rw one-more (first t at (n - (i + 1))) in
      record {
        done = l.done ++ (text t at ∷ []);
        count = length-append l.done (text t at ∷ []) ∙ omega (arith, l.count);
        all =
            append_assoc l.done (text t at ∷ []) (texts t (behind t at) (n - (i + 1)))
            ∙ ap (λ (xs : List (List ℕ)). l.done ++ xs) (sym rest)
            ∙ l.all;
        lie = lie;
        put = put-as (list-more l.done (text t at) l.put a b) refl (omega (arith, few, unit-more unit i));
      }
