-- The text of a constant, a slot, an expression: each case of the definition, as it is written.
use Prim.Native.Nat.{ℕ, zero, suc, ◌≤◌}
use mathlib.Core.Path.{◌≡◌, refl, sym}
use mathlib.Core.Logic.{◌⊎◌, inl, inr}
use mathlib.Core.Bool.{true, false}
use mathlib.Core.List.{List, [], ◌∷◌, ◌++◌, map}
use native.Mathlib.Omega.{arith}
use lib.IntN.{ℤ, pos, negsuc, nat_abs}
use lib.ListN.{length}
use borrow.Author.Tests.{ltb-true}
use lib.Signed.{lt_z}
use Rattle.model.specs.declared.Slot.{Slot}
use Rattle.model.specs.declared.Slot.TheVariants.{Unused, Constant, Variable, Bad}
use Rattle.model.specs.declared.Expression.{Expression}
use Rattle.model.proofs.Lists.{never}
use Rattle.grammar.specs.Tree.{Term, constant, Operation, sum, difference, product, quotient, remainder, Comparator, equal, unequal, less}
use Rattle.grammar.specs.Tree.{at_most, greater, at_least}
use Rattle.grammar.specs.Layout.{terms_in, operation_of, comparator_of, formulas_by, formulas_in}
use Rattle.text.specs.Printed.{decimal, term_text, operation_text, comparator_text}
use Rattle.text_writing.specs.declared.Page.{Page}
use Rattle.text_writing.specs.Written.{Put}
use Rattle.text_writing.specs.Parts.{some, first_text, slot_texts, formula_text, expression_texts}
use Rattle.text_writing.proofs.Writes.{put-as, put-both, put-none}

-- ---- constants, by their sign

not-negative : (z : ℤ) → lt_z z (pos 0) ≡ false → decimal (nat_abs z) ≡ term_text (constant z)
unfolding term_text
not-negative (pos n) h = refl
not-negative (negsuc n) h = never h

negative : (z : ℤ) → lt_z z (pos 0) ≡ true → 45 ∷ decimal (nat_abs z) ≡ term_text (constant z)
unfolding term_text
negative (pos n) h = absurd (omega (arith, ltb-true n 0 h))
negative (negsuc n) h = refl

module _ {p : Page} (z : ℤ) {n : ℕ} (e : n ≡ nat_abs z) {r : Page} where
  pub positive-put : lt_z z (pos 0) ≡ false → Put p (decimal n) 10 r → Put p (term_text (constant z)) 11 r
  positive-put h a = put-as a (rw e (not-negative z h)) (omega arith)

  pub negative-put : {q : Page} → lt_z z (pos 0) ≡ true → Put p (45 ∷ []) 1 q → Put q (decimal n) 10 r → Put p (term_text (constant z)) 11 r
  negative-put h a b = put-both a b (term_text (constant z)) 11 (rw e (negative z h)) (omega arith)

-- ---- slots

abbrev OfTerm : Slot → Type 0
OfTerm a = ((z : ℤ) × (a ≡ Constant z)) ⊎ ((v : ℕ) × (a ≡ Variable v))

pub used-some : (a : Slot) → OfTerm a → true ≡ some (slot_texts a)
unfolding some slot_texts terms_in
used-some a (inl e) = rw e.1
used-some a (inr e) = rw e.1

module _ (a : Slot) (c : (z : ℤ) → a ≡ Constant z → ⊥) (v : (k : ℕ) → a ≡ Variable k → ⊥) where
  unused : terms_in a ≡ []
  unfolding terms_in
  unused = go a refl
    where
      go : (b : Slot) → a ≡ b → terms_in b ≡ []
      go Unused e = refl
      go (Constant z) e = absurd (c z e)
      go (Variable k) e = absurd (v k e)
      go Bad e = refl

  pub unused-none : false ≡ some (slot_texts a)
  unfolding some slot_texts
  unused-none = rw unused

module _ {p : Page} (a : Slot) where
  pub unused-put : (a ≡ Unused) ⊎ (a ≡ Bad) → Put p (first_text (slot_texts a)) 11 p
  unfolding first_text slot_texts terms_in
  unused-put (inl e) = rw e (put-none p 11 refl)
  unused-put (inr e) = rw e (put-none p 11 refl)

  pub constant-put : {z : ℤ} {q : Page} → a ≡ Constant z → Put p (term_text (constant z)) 11 q → Put p (first_text (slot_texts a)) 11 q
  unfolding first_text slot_texts terms_in
  constant-put e b = rw e b

  pub variable-put : {v : ℕ} {q : Page} → a ≡ Variable v → Put p (86 ∷ decimal v) 11 q → Put p (first_text (slot_texts a)) 11 q
  unfolding first_text slot_texts terms_in term_text
  variable-put e b = rw e b

-- ---- operations and comparators

pub operation-sum : (n : ℕ) → (n ≡ 2 → ⊥) → (n ≡ 3 → ⊥) → (n ≡ 4 → ⊥) → (n ≡ 5 → ⊥) → 32 ∷ 43 ∷ 32 ∷ [] ≡ operation_text (operation_of n)
unfolding operation_of operation_text
operation-sum zero a b c d = refl
operation-sum (suc zero) a b c d = refl
operation-sum (suc (suc zero)) a b c d = absurd (a refl)
operation-sum (suc (suc (suc zero))) a b c d = absurd (b refl)
operation-sum (suc (suc (suc (suc zero)))) a b c d = absurd (c refl)
operation-sum (suc (suc (suc (suc (suc zero))))) a b c d = absurd (d refl)
operation-sum (suc (suc (suc (suc (suc (suc n)))))) a b c d = refl

pub comparator-equal : (n : ℕ) → (n ≡ 1 → ⊥) → (n ≡ 2 → ⊥) → (n ≡ 3 → ⊥) → (n ≡ 4 → ⊥) → (n ≡ 5 → ⊥) → 32 ∷ 61 ∷ 32 ∷ [] ≡ comparator_text (comparator_of n)
unfolding comparator_of comparator_text
comparator-equal zero a b c d e = refl
comparator-equal (suc zero) a b c d e = absurd (a refl)
comparator-equal (suc (suc zero)) a b c d e = absurd (b refl)
comparator-equal (suc (suc (suc zero))) a b c d e = absurd (c refl)
comparator-equal (suc (suc (suc (suc zero)))) a b c d e = absurd (d refl)
comparator-equal (suc (suc (suc (suc (suc zero))))) a b c d e = absurd (e refl)
comparator-equal (suc (suc (suc (suc (suc (suc n)))))) a b c d e = refl

pub operation-few : (o : Operation) → length (operation_text o) ≤ 3
unfolding operation_text
operation-few sum = omega arith
operation-few difference = omega arith
operation-few product = omega arith
operation-few quotient = omega arith
operation-few remainder = omega arith

pub comparator-few : (c : Comparator) → length (comparator_text c) ≤ 4
unfolding comparator_text
comparator-few equal = omega arith
comparator-few unequal = omega arith
comparator-few less = omega arith
comparator-few at_most = omega arith
comparator-few greater = omega arith
comparator-few at_least = omega arith

-- ---- expressions, by their operation and their two sides

by-none : (n : ℕ) (xs ys : List Term) → some (map term_text xs) ≡ false → false ≡ some (map formula_text (formulas_by n xs ys))
unfolding some formulas_by
by-none zero [] ys e = refl
by-none zero (a ∷ xs) ys e = sym e
by-none (suc n) [] ys e = refl
by-none (suc n) (a ∷ xs) ys e = never e

by-alone : (xs ys : List Term) → some (map term_text xs) ≡ true → true ≡ some (map formula_text (formulas_by 0 xs ys))
unfolding some formulas_by
by-alone [] ys e = sym e
by-alone (a ∷ xs) ys e = refl

by-applied : (n : ℕ) (xs ys : List Term) → (n ≡ 0 → ⊥) → some (map term_text xs) ≡ true
    → some (map term_text ys) ≡ some (map formula_text (formulas_by n xs ys))
unfolding some formulas_by
by-applied zero xs ys h e = absurd (h refl)
by-applied (suc n) [] ys h e = never (sym e)
by-applied (suc n) (a ∷ xs) [] h e = refl
by-applied (suc n) (a ∷ xs) (b ∷ ys) h e = refl

alone-text : (xs ys : List Term) → first_text (map term_text xs) ≡ first_text (map formula_text (formulas_by 0 xs ys))
unfolding first_text formulas_by formula_text
alone-text [] ys = refl
alone-text (a ∷ xs) ys = refl

applied-text : (n : ℕ) (xs ys : List Term) → (n ≡ 0 → ⊥) → some (map formula_text (formulas_by n xs ys)) ≡ true
    → first_text (map term_text xs) ++ (operation_text (operation_of n) ++ first_text (map term_text ys)) ≡ first_text (map formula_text (formulas_by n xs ys))
unfolding some first_text formulas_by formula_text
applied-text zero xs ys h e = absurd (h refl)
applied-text (suc n) [] ys h e = never (sym e)
applied-text (suc n) (a ∷ xs) [] h e = never (sym e)
applied-text (suc n) (a ∷ xs) (b ∷ ys) h e = refl

module _ (e : Expression) where
  pub expression-unused : some (slot_texts e.left) ≡ false → false ≡ some (expression_texts e)
  unfolding expression_texts formulas_in slot_texts
  expression-unused q = by-none e.operation (terms_in e.left) (terms_in e.right) q

  pub expression-alone : some (slot_texts e.left) ≡ true → e.operation ≡ 0 → true ≡ some (expression_texts e)
  unfolding expression_texts formulas_in slot_texts
  expression-alone q z = rw z (by-alone (terms_in e.left) (terms_in e.right) q)

  pub expression-applied : some (slot_texts e.left) ≡ true → (e.operation ≡ 0 → ⊥) → some (slot_texts e.right) ≡ some (expression_texts e)
  unfolding expression_texts formulas_in slot_texts
  expression-applied q z = by-applied e.operation (terms_in e.left) (terms_in e.right) z q

  module _ {p q : Page} (a : Put p (first_text (slot_texts e.left)) 11 q) where
    pub alone-put : e.operation ≡ 0 → Put p (first_text (expression_texts e)) 25 q
    unfolding expression_texts formulas_in slot_texts
    alone-put z = put-as a (rw z (alone-text (terms_in e.left) (terms_in e.right))) (omega arith)

    pub applied-put : (e.operation ≡ 0 → ⊥) → some (expression_texts e) ≡ true → {u v : Page} → Put q (operation_text (operation_of e.operation)) 3 u
        → Put u (first_text (slot_texts e.right)) 11 v → Put p (first_text (expression_texts e)) 25 v
    unfolding expression_texts formulas_in slot_texts
    applied-put z used b c =
        put-both a (put-both b c _ 14 refl (omega arith)) (first_text (expression_texts e)) 25
        (applied-text e.operation (terms_in e.left) (terms_in e.right) z used) (omega arith)
