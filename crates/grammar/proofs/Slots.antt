-- Terms and expressions against their bytes: what the bytes of a good one are read to, and that what is read to one stands as its bytes. A slot says
-- its tag and value, since each comes from one of the tests in turn.
use Prim.Native.Nat.{ℕ, ◌+◌, ◌≤◌, ◌<◌}
use mathlib.Core.Path.{◌≡◌, refl, sym, ap, ◌∙◌, subst}
use mathlib.Core.List.{List, ◌∷◌, ◌++◌}
use native.Mathlib.Omega.{arith}
use lib.Dec.{ltb, eqb}
use lib.ListN.{length, get_or, replicate}
use lib.IntN.{ℤ}
use borrow.Author.Tests.{ltb-true, eqb-true, lt-ltb}
use Rattle.numbers.proofs.Laws.{InRange, in-range-fits}
use Rattle.wire.specs.Wire.{u32_at, signed_of, bits_of, bytes4}
use Rattle.wire.proofs.Laws.{bits-below, signed-bits, bits-signed}
use Rattle.model.specs.declared.Slot.{Slot}
use Rattle.model.specs.declared.Slot.TheVariants.{Unused, Constant, Variable, Bad}
use Rattle.model.specs.declared.Expression.{Expression}
use Rattle.model.specs.Slots.{slot_by, slot_at, expression_at}
use Rattle.model.proofs.Ranges.{AreBytes}
use Rattle.model.proofs.Lists.{every-get_d, either}
use Rattle.grammar.specs.Tree.{Term, constant, variable, Formula, alone, applied, operation_number}
use Rattle.grammar.specs.Encode.{term_bytes, unused_slot, formula_bytes}
use Rattle.grammar.specs.WellFormed.{TermGood, FormulaGood}
use Rattle.grammar.specs.Layout.{slot_of, expression_of, no_expression}
use Rattle.grammar.proofs.Same.{Same, same-first, same-rest, same-more, same-left, same-right, same-both, same-at, word-decodes, word-encodes}
use Rattle.grammar.proofs.Same.{zeros-encode, zeros-decode}

-- ---- what a slot tells of its tag and value

abbrev pub SlotTells : ℕ → ℕ → Slot → Type 0
SlotTells tag value Unused = (tag ≡ 0) × (value ≡ 0)
SlotTells tag value (Constant z) = (tag ≡ 1) × (signed_of value ≡ z)
SlotTells tag value (Variable v) = (tag ≡ 2) × (value ≡ v) × (v ≤ 15)
SlotTells tag value Bad = Unit {0}

slot-tells : (tag value : ℕ) → SlotTells tag value (slot_by tag value)
unfolding slot_by
slot-tells tag value =
    let P = SlotTells tag value in
    either P (eqb tag 0) _ _
    (λ a. either P (eqb value 0) Unused Bad (λ b. (eqb-true tag 0 a, eqb-true value 0 b)) (λ b. tt))
    (λ a. either P (eqb tag 1) _ _
    (λ b. (eqb-true tag 1 b, refl))
    (λ b. either P (eqb tag 2) _ Bad
    (λ c. either P (ltb value 16) (Variable value) Bad (λ d. (eqb-true tag 2 c, refl, omega (arith, ltb-true value 16 d))) (λ d. tt))
    (λ c. tt)))

module _ (t : List ℕ) (p : ℕ) where
  pub slot-at : (s : Slot) → slot_at t p ≡ s → SlotTells (get_or t p 0) (u32_at t (p + 1)) s
  unfolding slot_at
  slot-at s e = subst (SlotTells (get_or t p 0) (u32_at t (p + 1))) e (slot-tells (get_or t p 0) (u32_at t (p + 1)))

  slot-by : (tag value : ℕ) → get_or t p 0 ≡ tag → u32_at t (p + 1) ≡ value → slot_at t p ≡ slot_by tag value
  unfolding slot_at
  slot-by tag value e d = rw (e, d)

-- ---- terms

pub term-long : (a : Term) → length (term_bytes a) ≡ 5
unfolding term_bytes bytes4
term-long (constant z) = refl
term-long (variable v) = refl

variable-slot : (v : ℕ) → v ≤ 15 → slot_by 2 v ≡ Variable v
unfolding slot_by
variable-slot v h = rw (lt-ltb v 16 (omega arith))

constant-slot : (z : ℤ) → InRange z → slot_by 1 (bits_of z) ≡ Constant z
unfolding slot_by
constant-slot z r = ap Constant (signed-bits z (in-range-fits r))

pub term-decodes : (t : List ℕ) (p : ℕ) (a : Term) → TermGood a → Same t p (term_bytes a) → slot_at t p ≡ slot_of a
unfolding term_bytes
term-decodes t p (constant z) r s =
    slot-by t p 1 (bits_of z) (same-first t p 1 (bytes4 (bits_of z)) s)
    (word-decodes t (p + 1) (bits_of z) (bits-below z (in-range-fits r)) (same-rest t p 1 (bytes4 (bits_of z)) s))
    ∙ constant-slot z r
term-decodes t p (variable v) h s =
    slot-by t p 2 v (same-first t p 2 (bytes4 v) s) (word-decodes t (p + 1) v (omega arith) (same-rest t p 2 (bytes4 v) s))
    ∙ variable-slot v h

pub unused-decodes : (t : List ℕ) (p : ℕ) → Same t p unused_slot → slot_at t p ≡ Unused
unfolding slot_by
unused-decodes t p s = slot-by t p 0 0 (same-first t p 0 (replicate 4 0) s) (zeros-decode t (p + 1) (same-rest t p 0 (replicate 4 0) s))

module _ (t : List ℕ) (u : AreBytes t) where
  pub below : (p : ℕ) → u32_at t p < 4294967296
  unfolding u32_at
  below p = omega (arith, at p, at (p + 1), at (p + 2), at (p + 3))
    where
      at : (i : ℕ) → get_or t i 0 < 256
      at i = every-get_d (λ (b : ℕ). b < 256) t i 0 u (omega arith)

  pub bits-at : (p : ℕ) (z : ℤ) → signed_of (u32_at t p) ≡ z → u32_at t p ≡ bits_of z
  bits-at p z e = sym (bits-signed (u32_at t p) (below p)) ∙ ap bits_of e

  pub term-encodes : (p : ℕ) (a : Term) → slot_at t p ≡ slot_of a → Same t p (term_bytes a)
  unfolding term_bytes
  term-encodes p (constant z) e =
      let q = slot-at t p (Constant z) e in
      same-more t p 1 (bytes4 (bits_of z)) q.0 (word-encodes t u (p + 1) (bits_of z) (bits-at (p + 1) z q.1))
  term-encodes p (variable v) e =
      let q = slot-at t p (Variable v) e in
      same-more t p 2 (bytes4 v) q.0 (word-encodes t u (p + 1) v q.1)

pub unused-encodes : (t : List ℕ) (p : ℕ) → slot_at t p ≡ Unused → Same t p unused_slot
unused-encodes t p e =
    let q = slot-at t p Unused e in
    same-more t p 0 (replicate 4 0) q.0 (zeros-encode t (p + 1) q.1)

-- ---- expressions

pub formula-long : (e : Formula) → length (formula_bytes e) ≡ 11
unfolding formula_bytes term_bytes bytes4
formula-long (alone (constant z)) = refl
formula-long (alone (variable v)) = refl
formula-long (applied o (constant y) (constant z)) = refl
formula-long (applied o (constant y) (variable w)) = refl
formula-long (applied o (variable v) (constant z)) = refl
formula-long (applied o (variable v) (variable w)) = refl

module _ (t : List ℕ) (p : ℕ) where
  expression-by : (o : ℕ) (l r : Slot) → get_or t p 0 ≡ o → slot_at t (p + 1) ≡ l → slot_at t (p + 6) ≡ r
      → expression_at t p ≡ record { operation = o; left = l; right = r }
  unfolding expression_at
  expression-by o l r a b c = rw (a, b, c)

  expression-tells : (e : Expression) → expression_at t p ≡ e → (get_or t p 0 ≡ e.operation) × (slot_at t (p + 1) ≡ e.left) × (slot_at t (p + 6) ≡ e.right)
  unfolding expression_at
  expression-tells e q = (ap (λ (x : Expression). x.operation) q, ap (λ (x : Expression). x.left) q, ap (λ (x : Expression). x.right) q)

  -- the two slots behind the operation
  first-slot : (o : ℕ) (a : Term) (bs : List ℕ) → Same t p (o ∷ (term_bytes a ++ bs)) → Same t (p + 1) (term_bytes a)
  first-slot o a bs s = same-left t (p + 1) (term_bytes a) bs (same-rest t p o (term_bytes a ++ bs) s)

  second-slot : (o : ℕ) (a : Term) (bs : List ℕ) → Same t p (o ∷ (term_bytes a ++ bs)) → Same t (p + 6) bs
  second-slot o a bs s =
      same-at t (p + 1 + length (term_bytes a)) (p + 6) bs (omega (arith, term-long a))
      (same-right t (p + 1) (term_bytes a) bs (same-rest t p o (term_bytes a ++ bs) s))

  two-slots : (o : ℕ) (a : Term) (bs : List ℕ) → get_or t p 0 ≡ o → Same t (p + 1) (term_bytes a) → Same t (p + 6) bs → Same t p (o ∷ (term_bytes a ++ bs))
  two-slots o a bs e x y =
      same-more t p o (term_bytes a ++ bs) e
      (same-both t (p + 1) (term_bytes a) bs x (same-at t (p + 6) (p + 1 + length (term_bytes a)) bs (omega (arith, term-long a)) y))

pub formula-decodes : (t : List ℕ) (p : ℕ) (e : Formula) → FormulaGood e → Same t p (formula_bytes e) → expression_at t p ≡ expression_of e
unfolding formula_bytes
formula-decodes t p (alone a) g s =
    expression-by t p 0 (slot_of a) Unused (same-first t p 0 (term_bytes a ++ unused_slot) s)
    (term-decodes t (p + 1) a g (first-slot t p 0 a unused_slot s)) (unused-decodes t (p + 6) (second-slot t p 0 a unused_slot s))
formula-decodes t p (applied o a b) g s =
    expression-by t p (operation_number o) (slot_of a) (slot_of b) (same-first t p (operation_number o) (term_bytes a ++ term_bytes b) s)
    (term-decodes t (p + 1) a g.0 (first-slot t p (operation_number o) a (term_bytes b) s))
    (term-decodes t (p + 6) b g.1 (second-slot t p (operation_number o) a (term_bytes b) s))

pub none-decodes : (t : List ℕ) (p : ℕ) → Same t p (replicate 11 0) → expression_at t p ≡ no_expression
none-decodes t p s =
    let rest : Same t (p + 1) (unused_slot ++ unused_slot) = same-rest t p 0 (replicate 10 0) s in
    expression-by t p 0 Unused Unused (same-first t p 0 (replicate 10 0) s) (unused-decodes t (p + 1) (same-left t (p + 1) unused_slot unused_slot rest))
    (unused-decodes t (p + 6) (same-at t (p + 1 + 5) (p + 6) unused_slot (omega arith) (same-right t (p + 1) unused_slot unused_slot rest)))

pub formula-encodes : (t : List ℕ) → AreBytes t → (p : ℕ) (e : Formula) → expression_at t p ≡ expression_of e → Same t p (formula_bytes e)
unfolding formula_bytes
formula-encodes t u p (alone a) e =
    let q = expression-tells t p (expression_of (alone a)) e in
    two-slots t p 0 a unused_slot q.0 (term-encodes t u (p + 1) a q.1) (unused-encodes t (p + 6) q.2)
formula-encodes t u p (applied o a b) e =
    let q = expression-tells t p (expression_of (applied o a b)) e in
    two-slots t p (operation_number o) a (term_bytes b) q.0 (term-encodes t u (p + 1) a q.1) (term-encodes t u (p + 6) b q.2)

pub none-encodes : (t : List ℕ) (p : ℕ) → expression_at t p ≡ no_expression → Same t p (replicate 11 0)
none-encodes t p e =
    let q = expression-tells t p no_expression e in
    same-more t p 0 (unused_slot ++ unused_slot) q.0
    (same-both t (p + 1) unused_slot unused_slot (unused-encodes t (p + 1) q.1)
    (same-at t (p + 6) (p + 1 + 5) unused_slot (omega arith) (unused-encodes t (p + 6) q.2)))
