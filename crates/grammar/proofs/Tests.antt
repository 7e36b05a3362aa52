-- The tests of the definition on what is decoded, against trees: what is laid out from a good tree passes each, and what passes them is laid out from
-- the tree that is read back, which is good. By the cases of a slot and of an operation.
use Prim.Native.Nat.{ℕ, zero, suc, ◌≤◌}
use mathlib.Core.Path.{◌≡◌, refl, sym, ap}
use mathlib.Core.Logic.{◌⊎◌, inl, inr}
use mathlib.Core.Bool.{Bool, true, false, ◌||◌}
use mathlib.Core.List.Memᴰ
use mathlib.Core.List.{List, [], ◌∷◌, ◌++◌, map, Memᴰ}
use native.Mathlib.Omega.{arith}
use lib.Dec.{ltb}
use lib.ListN.{length}
use borrow.Author.Tests.{ltb-false, lt-ltb, eqb-true, eq-eqb}
use Rattle.numbers.proofs.Laws.{InRange}
use Rattle.model.specs.declared.Slot.{Slot}
use Rattle.model.specs.declared.Slot.TheVariants.{Unused, Constant, Variable, Bad}
use Rattle.model.specs.declared.Expression.{Expression}
use Rattle.model.specs.Fields.{place_bad, top_of}
use Rattle.model.specs.Variables.{is_variable}
use Rattle.model.specs.Table.{Head}
use Rattle.model.proofs.Every.{every}
use Rattle.model.proofs.Lists.{or-false-left, or-false-right, or-true, or-both}
use Rattle.grammar.specs.Tree.{Term, constant, variable, Operation, sum, difference, product, quotient, remainder, operation_number, HeadTree}
use Rattle.grammar.specs.Tree.{head_terms, Formula, alone, applied, Comparator, equal, unequal, less, at_most, greater, at_least, comparator_number}
use Rattle.grammar.specs.WellFormed.{TermGood, FormulaGood}
use Rattle.grammar.specs.Layout.{laid_places, slot_of, expression_of, no_expression, laid_head, terms_in, operation_of, formulas_by, formulas_in}
use Rattle.grammar.specs.Layout.{comparator_of}
use Rattle.grammar.proofs.Places.{PlaceUsed}

-- ---- slots

-- what a slot read from bytes holds
abbrev pub SlotHeld : Slot → Type 0
SlotHeld Unused = Unit {0}
SlotHeld (Constant z) = InRange z
SlotHeld (Variable v) = v ≤ 15
SlotHeld Bad = Unit {0}

pub no-test : {X : Type 0} → true ≡ false → X
no-test e = absurd (let z : ◌≡◌ {A = ℕ} 0 1 = cc in omega arith)

pub term-used : (a : Term) → place_bad true (slot_of a) ≡ false
unfolding place_bad
term-used (constant z) = refl
term-used (variable v) = refl

pub slot-unused : place_bad false Unused ≡ false
unfolding place_bad
slot-unused = refl

pub slot-used : (s : Slot) → place_bad true s ≡ false → SlotHeld s → PlaceUsed slot_of TermGood s (terms_in s)
unfolding place_bad terms_in
slot-used Unused e h = no-test e
slot-used (Constant z) e h = record { item = constant z; one = refl; same = refl; good = h }
slot-used (Variable v) e h = record { item = variable v; one = refl; same = refl; good = omega arith }
slot-used Bad e h = no-test e

pub slot-blank : (s : Slot) → place_bad false s ≡ false → (s ≡ Unused) × (terms_in s ≡ [])
unfolding place_bad terms_in
slot-blank Unused e = (refl, refl)
slot-blank (Constant z) e = no-test e
slot-blank (Variable v) e = no-test e
slot-blank Bad e = no-test e

pub term-back : (a : Term) → terms_in (slot_of a) ≡ a ∷ []
unfolding terms_in
term-back (constant z) = refl
term-back (variable v) = refl

pub unused-back : terms_in Unused ≡ []
unfolding terms_in
unused-back = refl

-- ---- operations and comparators

operation-some : (o : Operation) → ltb 0 (operation_number o) ≡ true
operation-some sum = refl
operation-some difference = refl
operation-some product = refl
operation-some quotient = refl
operation-some remainder = refl

operation-few : (o : Operation) → ltb 5 (operation_number o) ≡ false
operation-few sum = refl
operation-few difference = refl
operation-few product = refl
operation-few quotient = refl
operation-few remainder = refl

pub operation-numbered : (n : ℕ) → suc n ≤ 5 → operation_number (operation_of (suc n)) ≡ suc n
unfolding operation_of
operation-numbered zero h = refl
operation-numbered (suc zero) h = refl
operation-numbered (suc (suc zero)) h = refl
operation-numbered (suc (suc (suc zero))) h = refl
operation-numbered (suc (suc (suc (suc zero)))) h = refl
operation-numbered (suc (suc (suc (suc (suc n))))) h = absurd (omega arith)

pub comparator-few : (c : Comparator) → ltb 5 (comparator_number c) ≡ false
comparator-few equal = refl
comparator-few unequal = refl
comparator-few less = refl
comparator-few at_most = refl
comparator-few greater = refl
comparator-few at_least = refl

pub comparator-numbered : (n : ℕ) → n ≤ 5 → comparator_number (comparator_of n) ≡ n
unfolding comparator_of
comparator-numbered zero h = refl
comparator-numbered (suc zero) h = refl
comparator-numbered (suc (suc zero)) h = refl
comparator-numbered (suc (suc (suc zero))) h = refl
comparator-numbered (suc (suc (suc (suc zero)))) h = refl
comparator-numbered (suc (suc (suc (suc (suc zero))))) h = refl
comparator-numbered (suc (suc (suc (suc (suc (suc n)))))) h = absurd (omega arith)

pub comparator-back : (c : Comparator) → comparator_of (comparator_number c) ≡ c
unfolding comparator_of
comparator-back equal = refl
comparator-back unequal = refl
comparator-back less = refl
comparator-back at_most = refl
comparator-back greater = refl
comparator-back at_least = refl

-- ---- expressions

-- an expression is bad at a place that is used, or at one that is not
abbrev pub expression_wrong : Bool → Expression → Bool
expression_wrong used e = ltb (top_of used) e.operation || (place_bad used e.left || place_bad (ltb 0 e.operation) e.right)

pub record ExpressionHeld (e : Expression) : Type 0 where
  pub left : SlotHeld e.left
  pub right : SlotHeld e.right

pub formula-used : (e : Formula) → expression_wrong true (expression_of e) ≡ false
unfolding top_of
formula-used (alone a) = or-both (place_bad true (slot_of a)) _ (term-used a) slot-unused
formula-used (applied o a b) =
    or-both (ltb 5 (operation_number o)) _ (operation-few o)
    (or-both (place_bad true (slot_of a)) _ (term-used a) (rw (operation-some o) (term-used b)))

pub none-unused : expression_wrong false no_expression ≡ false
unfolding top_of
none-unused = or-both (place_bad false Unused) _ slot-unused slot-unused

-- the parts of an expression that is used
parts-used : (o : ℕ) (l r : Slot) → o ≤ 5 → PlaceUsed slot_of TermGood l (terms_in l) → SlotHeld r → place_bad (ltb 0 o) r ≡ false
    → PlaceUsed expression_of FormulaGood (record { operation = o; left = l; right = r }) (formulas_by o (terms_in l) (terms_in r))
unfolding formulas_by
parts-used zero l r h a held e =
    let b = slot-blank r e in
    rw a.one (record {
      item = alone a.item;
      one = refl;
      same = λ i. record { operation = 0; left = a.same i; right = b.0 i };
      good = a.good;
    })
parts-used (suc n) l r h a held e =
    let used : ltb 0 (suc n) ≡ true = lt-ltb 0 (suc n) (omega arith) in
    let b = slot-used r (rw used at e) held in
    rw (a.one, b.one) (record {
      item = applied (operation_of (suc n)) a.item b.item;
      one = refl;
      same = λ i. record { operation = sym (operation-numbered n h) i; left = a.same i; right = b.same i };
      good = (a.good, b.good);
    })

pub expression-used : (e : Expression) → expression_wrong true e ≡ false → ExpressionHeld e → PlaceUsed expression_of FormulaGood e (formulas_in e)
unfolding top_of formulas_in
expression-used e q h =
    let few : e.operation ≤ 5 = ltb-false 5 e.operation (or-false-left (ltb 5 e.operation) _ q) in
    let rest = or-false-right (ltb 5 e.operation) _ q in
    parts-used e.operation e.left e.right few (slot-used e.left (or-false-left (place_bad true e.left) _ rest) h.left) h.right
    (or-false-right (place_bad true e.left) _ rest)

parts-blank : (o : ℕ) (l r : Slot) → o ≤ 0 → (l ≡ Unused) × (terms_in l ≡ []) → place_bad (ltb 0 o) r ≡ false
    → (◌≡◌ {A = Expression} (record { operation = o; left = l; right = r }) no_expression) × (formulas_by o (terms_in l) (terms_in r) ≡ [])
unfolding formulas_by
parts-blank zero l r h a e = (λ i. record { operation = 0; left = a.0 i; right = (slot-blank r e).0 i }, rw a.1)
parts-blank (suc n) l r h a e = absurd (omega arith)

pub expression-blank : (e : Expression) → expression_wrong false e ≡ false → (e ≡ no_expression) × (formulas_in e ≡ [])
unfolding top_of formulas_in
expression-blank e q =
    let none : e.operation ≤ 0 = ltb-false 0 e.operation (or-false-left (ltb 0 e.operation) _ q) in
    let rest = or-false-right (ltb 0 e.operation) _ q in
    parts-blank e.operation e.left e.right none (slot-blank e.left (or-false-left (place_bad false e.left) _ rest))
    (or-false-right (place_bad false e.left) _ rest)

pub formula-back : (e : Formula) → formulas_in (expression_of e) ≡ e ∷ []
unfolding formulas_in formulas_by operation_of
formula-back (alone a) = rw (term-back a)
formula-back (applied sum a b) = rw (term-back a, term-back b)
formula-back (applied difference a b) = rw (term-back a, term-back b)
formula-back (applied product a b) = rw (term-back a, term-back b)
formula-back (applied quotient a b) = rw (term-back a, term-back b)
formula-back (applied remainder a b) = rw (term-back a, term-back b)

pub none-back : formulas_in no_expression ≡ []
unfolding formulas_in formulas_by
none-back = rw unused-back

-- ---- variables: whether one stands in some heads

abbrev pub slots_have : ℕ → List Slot → Bool
slots_have v [] = false
slots_have v (s ∷ ss) = is_variable s v || slots_have v ss

abbrev pub heads_have : ℕ → List Head → Bool
heads_have v [] = false
heads_have v (h ∷ hs) = slots_have v h.slots || heads_have v hs

or-true-left : (a b : Bool) → a ≡ true → (a || b) ≡ true
or-true-left true b e = refl
or-true-left false b e = no-test (sym e)

or-true-right : (a b : Bool) → b ≡ true → (a || b) ≡ true
or-true-right true b e = refl
or-true-right false b e = e

variable-number : (v w : ℕ) → variable v ≡ variable w → v ≡ w
variable-number v w e = cc

term-not : (v : ℕ) (a : Term) → variable v ≡ a → is_variable (slot_of a) v ≡ true
unfolding is_variable
term-not v (constant z) e = no-test (let x : true ≡ false = cc in x)
term-not v (variable w) e = eq-eqb w v (sym (variable-number v w e))

term-is : (v : ℕ) (a : Term) → is_variable (slot_of a) v ≡ true → variable v ≡ a
unfolding is_variable
term-is v (constant z) e = no-test (sym e)
term-is v (variable w) e = ap variable (sym (eqb-true w v e))

module _ (v : ℕ) where
  slots-have : (n : ℕ) (xs : List Term) → length xs ≤ n → Memᴰ (variable v) xs → slots_have v (laid_places slot_of Unused n xs) ≡ true
  unfolding laid_places
  slots-have zero [] l m = elim m [ ]
  slots-have (suc n) [] l m = elim m [ ]
  slots-have zero (x ∷ xs) l (Memᴰ.head e) = absurd (omega arith)
  slots-have zero (x ∷ xs) l (Memᴰ.tail m) = absurd (omega arith)
  slots-have (suc n) (x ∷ xs) l (Memᴰ.head e) = or-true-left (is_variable (slot_of x) v) _ (term-not v x e)
  slots-have (suc n) (x ∷ xs) l (Memᴰ.tail m) = or-true-right (is_variable (slot_of x) v) _ (slots-have n xs (omega arith) m)

  have-slots : (n : ℕ) (xs : List Term) → slots_have v (laid_places slot_of Unused n xs) ≡ true → Memᴰ (variable v) xs
  unfolding laid_places is_variable
  have-slots zero xs e = no-test (sym e)
  have-slots (suc n) [] e = have-slots n [] e
  have-slots (suc n) (x ∷ xs) e = go (or-true (is_variable (slot_of x) v) _ e) (have-slots n xs)
    where
      go : (is_variable (slot_of x) v ≡ true) ⊎ (slots_have v (laid_places slot_of Unused n xs) ≡ true)
          → (slots_have v (laid_places slot_of Unused n xs) ≡ true → Memᴰ (variable v) xs) → Memᴰ (variable v) (x ∷ xs)
      go (inl a) later = Memᴰ.head (term-is v x a)
      go (inr b) later = Memᴰ.tail (later b)

  pub heads-have : (hs : List HeadTree) → every (λ (h : HeadTree). length h.terms ≤ 4) hs → Memᴰ (variable v) (head_terms hs)
      → heads_have v (map laid_head hs) ≡ true
  unfolding laid_head
  heads-have [] u m = absurd (mathlib.Core.List.Memᴰ.not-nil m)
  heads-have (h ∷ hs) u m = go (Memᴰ.append_cases h.terms m) (heads-have hs u.1)
    where
      go : Memᴰ (variable v) h.terms ⊎ Memᴰ (variable v) (head_terms hs)
          → (Memᴰ (variable v) (head_terms hs) → heads_have v (map laid_head hs) ≡ true)
          → (slots_have v (laid_places slot_of Unused 4 h.terms) || heads_have v (map laid_head hs)) ≡ true
      go (inl a) later = or-true-left _ _ (slots-have 4 h.terms u.0 a)
      go (inr b) later = or-true-right (slots_have v (laid_places slot_of Unused 4 h.terms)) _ (later b)

  pub have-heads : (hs : List HeadTree) → heads_have v (map laid_head hs) ≡ true → Memᴰ (variable v) (head_terms hs)
  unfolding laid_head
  have-heads [] e = no-test (sym e)
  have-heads (h ∷ hs) e = go (or-true (slots_have v (laid_places slot_of Unused 4 h.terms)) _ e) (have-heads hs)
    where
      go : (slots_have v (laid_places slot_of Unused 4 h.terms) ≡ true) ⊎ (heads_have v (map laid_head hs) ≡ true)
          → (heads_have v (map laid_head hs) ≡ true → Memᴰ (variable v) (head_terms hs)) → Memᴰ (variable v) (h.terms ++ head_terms hs)
      go (inl a) later = Memᴰ.append_left (head_terms hs) (have-slots 4 h.terms a)
      go (inr b) later = Memᴰ.append_right h.terms (later b)

-- ---- a test of every place

abbrev pub any_of : {B : Type 0} → (B → Bool) → List B → Bool
any_of f [] = false
any_of f (b ∷ bs) = f b || any_of f bs

module _ {A B : Type 0} (lay : A → B) (blank : B) (f : B → Bool) (Known : A → Type 0) where
  pub laid-any : ((x : A) → Known x → f (lay x) ≡ false) → f blank ≡ false → (n : ℕ) (xs : List A) → every Known xs
      → any_of f (laid_places lay blank n xs) ≡ false
  unfolding laid_places
  laid-any used unused zero xs u = refl
  laid-any used unused (suc n) [] u = or-both (f blank) _ unused (laid-any used unused n [] tt)
  laid-any used unused (suc n) (x ∷ xs) u = or-both (f (lay x)) _ (used x u.0) (laid-any used unused n xs u.1)

  pub any-laid : ((x : A) → f (lay x) ≡ false → Known x) → (n : ℕ) (xs : List A) → length xs ≤ n → any_of f (laid_places lay blank n xs) ≡ false
      → every Known xs
  unfolding laid_places
  any-laid known zero [] l e = tt
  any-laid known zero (x ∷ xs) l e = absurd (omega arith)
  any-laid known (suc n) [] l e = tt
  any-laid known (suc n) (x ∷ xs) l e =
      (known x (or-false-left (f (lay x)) _ e), any-laid known n xs (omega arith) (or-false-right (f (lay x)) _ e))
