-- The parts of a rule, from bytes: what the bytes of a good part are read to, that they pass the definition's tests of fields and variables, and that
-- a part which passes them is the bytes of the good tree that is read back. Each test is said on what is decoded, and there the laws of places serve.
use Prim.Native.Nat.{ℕ, zero, suc, ◌+◌, ◌*◌, ◌≤◌, ◌<◌}
use mathlib.Core.Path.{◌≡◌, refl, sym, ap, ◌∙◌, subst}
use mathlib.Core.Bool.{Bool, true, false, ◌||◌}
use mathlib.Core.List.{List, [], ◌∷◌, ◌++◌, map}
use native.Mathlib.Omega.{arith}
use native.Mathlib.Nat.{mul-suc}
use lib.Dec.{ltb, leb}
use lib.ListN.{length, get_or, length-append}
use borrow.Author.Tests.{lt-leb, leb-false, ltb-false, not-false}
use Rattle.numbers.proofs.Laws.{fits-in-range}
use Rattle.wire.specs.Wire.{u32_at}
use Rattle.wire.proofs.Laws.{signed-fits}
use Rattle.model.specs.declared.Slot.{Slot}
use Rattle.model.specs.declared.Slot.TheVariants.{Unused, Constant, Variable, Bad}
use Rattle.model.specs.declared.Expression.{Expression}
use Rattle.model.specs.Slots.{slot_at, expression_at}
use Rattle.model.specs.Fields.{place_bad, arity_at, places_bad, expression_bad, arguments_bad, head_bad, guard_bad, body_fact_bad}
use Rattle.model.specs.Variables.{is_variable, head_has, in_heads, strange_slot, strange_expression, strange_guard, strange_fact}
use Rattle.model.specs.Table.{Head, Guard, body_fact, symbol_at, head_at, guard_at, body_fact_at, is_fact, item_at, heads_from, guards_from}
use Rattle.model.proofs.Every.{every, every-weaken}
use Rattle.model.proofs.Lists.{or-false-left, or-false-right, or-both, every-get_d}
use Rattle.model.proofs.Ranges.{AreBytes}
use Rattle.model.proofs.Decoded.{item-fail}
use Rattle.grammar.specs.Tree.{Term, constant, variable, Formula, alone, applied, comparator_number, HeadTree, GuardTree, fact, fail, head_terms}
use Rattle.grammar.specs.Encode.{each_bytes, places_bytes, term_bytes, formula_bytes, head_bytes, guard_bytes, item_bytes}
use Rattle.grammar.specs.WellFormed.{TermGood, FormulaGood, TermKnown, FormulaKnown, Uses, HeadGood}
use Rattle.grammar.specs.Layout.{slot_of, expression_of, no_expression, laid_places, laid_head, laid_guard, laid_item, terms_in, used_of, formulas_in}
use Rattle.grammar.specs.Layout.{formula_in, head_tree, guard_tree}
use Rattle.grammar.proofs.Same.{Same, same-first, same-rest, same-more, same-left, same-right, same-both, same-at, same-none}
use Rattle.grammar.proofs.Slots.{term-long, term-decodes, unused-decodes, term-encodes, unused-encodes, formula-long, formula-decodes, none-decodes}
use Rattle.grammar.proofs.Slots.{formula-encodes, none-encodes, SlotTells, slot-at, below}
use Rattle.grammar.proofs.Places.{rows_at, used_bad, four-used, places-long, places-decode, places-encode, laid-used, used-laid, PlaceUsed, or-none}
use Rattle.grammar.proofs.Tests.{SlotHeld, ExpressionHeld, term-used, slot-unused, slot-used, slot-blank, comparator-few, comparator-numbered}
use Rattle.grammar.proofs.Tests.{expression_wrong, formula-used, none-unused, expression-used, expression-blank, heads_have, heads-have, have-heads}
use Rattle.grammar.proofs.Tests.{any_of}

-- ---- what slots and expressions from bytes hold

module _ (t : List ℕ) (u : AreBytes t) where
  pub slot-held : (p : ℕ) → SlotHeld (slot_at t p)
  slot-held p = go (slot_at t p) (slot-at t p (slot_at t p) refl)
    where
      go : (s : Slot) → SlotTells (get_or t p 0) (u32_at t (p + 1)) s → SlotHeld s
      go Unused q = tt
      go (Constant z) q = rw (← q.1) (fits-in-range (signed-fits (u32_at t (p + 1)) (below t u (p + 1))))
      go (Variable v) q = q.2
      go Bad q = tt

  pub expression-held : (p : ℕ) → ExpressionHeld (expression_at t p)
  unfolding expression_at
  expression-held p = record { left = slot-held (p + 1); right = slot-held (p + 6) }

-- ---- one behind the other

-- what holds at each of n rows from p on holds at the first, and at the others
rows-first : (P : ℕ → Type 0) (size p n : ℕ) → ((i : ℕ) → i < suc n → P (p + size * i)) → P p
rows-first P size p n h = let z : p + size * 0 ≡ p = omega arith in subst P z (h 0 (omega arith))

rows-later : (P : ℕ → Type 0) (size p n : ℕ) → ((i : ℕ) → i < suc n → P (p + size * i)) → (i : ℕ) → i < n → P (p + size + size * i)
rows-later P size p n h i l =
    let e : p + size * suc i ≡ p + size + size * i = omega (arith, mul-suc size i) in
    subst P e (h (suc i) (omega arith))

module _ {A : Type 0} (bytes : A → List ℕ) (size : ℕ) (long : (x : A) → length (bytes x) ≡ size) where
  pub each-long : (xs : List A) → length (each_bytes bytes xs) ≡ size * length xs
  unfolding each_bytes
  each-long [] = omega arith
  each-long (x ∷ xs) = length-append (bytes x) (each_bytes bytes xs) ∙ omega (arith, long x, each-long xs, mul-suc size (length xs))

module _ {A B : Type 0} (bytes : A → List ℕ) (size : ℕ) (long : (x : A) → length (bytes x) ≡ size) (t : List ℕ) (at : ℕ → B) where
  pub each-decode : (lay : A → B) (Good : A → Type 0) → ((p : ℕ) (x : A) → Good x → Same t p (bytes x) → at p ≡ lay x)
      → (p : ℕ) (xs : List A) → every Good xs → Same t p (each_bytes bytes xs) → rows_at at size p (length xs) ≡ map lay xs
  unfolding each_bytes
  each-decode lay Good one p [] g s = refl
  each-decode lay Good one p (x ∷ xs) g s =
      let first : at p ≡ lay x = one p x g.0 (same-left t p (bytes x) (each_bytes bytes xs) s) in
      let later = each-decode lay Good one (p + size) xs g.1
      (same-at t (p + length (bytes x)) (p + size) (each_bytes bytes xs) (omega (arith, long x)) (same-right t p (bytes x) (each_bytes bytes xs) s)) in
      rw (first, later)

  -- rows that each stand as the bytes of what they are read back to
  pub each-encode : (back : B → A) (p n : ℕ) → ((i : ℕ) → i < n → Same t (p + size * i) (bytes (back (at (p + size * i)))))
      → Same t p (each_bytes bytes (map back (rows_at at size p n)))
  unfolding each_bytes
  each-encode back p zero h = same-none t p
  each-encode back p (suc n) h =
      let first : Same t p (bytes (back (at p))) = rows-first (λ (q : ℕ). Same t q (bytes (back (at q)))) size p n h in
      let later = each-encode back (p + size) n (rows-later (λ (q : ℕ). Same t q (bytes (back (at q)))) size p n h) in
      same-both t p (bytes (back (at p))) _ first (same-at t (p + size) (p + length (bytes (back (at p)))) _ (omega (arith, long (back (at p)))) later)

module _ {A B : Type 0} (size : ℕ) (at : ℕ → B) (back : B → A) where
  -- what they are read back to is good, if each is
  pub each-good : (Good : A → Type 0) (p n : ℕ) → ((i : ℕ) → i < n → Good (back (at (p + size * i)))) → every Good (map back (rows_at at size p n))
  each-good Good p zero h = tt
  each-good Good p (suc n) h =
      let P : ℕ → Type 0 = λ q. Good (back (at q)) in
      (rows-first P size p n h, each-good Good (p + size) n (rows-later P size p n h))

  -- and is laid out as they are, if each is
  pub each-laid : (lay : A → B) (p n : ℕ) → ((i : ℕ) → i < n → at (p + size * i) ≡ lay (back (at (p + size * i))))
      → rows_at at size p n ≡ map lay (map back (rows_at at size p n))
  each-laid lay p zero h = refl
  each-laid lay p (suc n) h =
      let P : ℕ → Type 0 = λ q. at q ≡ lay (back (at q)) in
      ap (λ (x : B). x ∷ rows_at at size (p + size) n) (rows-first P size p n h)
      ∙ ap (λ (l : List B). lay (back (at p)) ∷ l) (each-laid lay (p + size) n (rows-later P size p n h))

pub heads-rows : (t : List ℕ) (p n : ℕ) → heads_from t p n ≡ rows_at (head_at t) 22 p n
unfolding heads_from
heads-rows t p zero = refl
heads-rows t p (suc n) = ap (λ (l : List Head). head_at t p ∷ l) (heads-rows t (p + 22) n)

pub guards-rows : (t : List ℕ) (p n : ℕ) → guards_from t p n ≡ rows_at (guard_at t) 24 p n
unfolding guards_from
guards-rows t p zero = refl
guards-rows t p (suc n) = ap (λ (l : List Guard). guard_at t p ∷ l) (guards-rows t (p + 24) n)

-- ---- heads

abbrev slots_at : List ℕ → ℕ → List Slot
slots_at t p = rows_at (slot_at t) 5 p 4

-- four slots behind the symbol
head-slots : (t : List ℕ) (p : ℕ) → head_at t p ≡ record { symbol = symbol_at t (p + 1); slots = slots_at t (p + 2) }
unfolding head_at
head-slots t p =
    let a : p + 2 + 5 ≡ p + 7 = omega arith in
    let b : p + 7 + 5 ≡ p + 12 = omega arith in
    let c : p + 12 + 5 ≡ p + 17 = omega arith in
    rw (a, b, c)

pub head-long : (kind : ℕ) (h : HeadTree) → length (head_bytes kind h) ≡ 22
unfolding head_bytes
head-long kind h = omega (arith, places-long term_bytes 5 term-long 4 h.terms)

pub head-decodes : (t : List ℕ) (p kind : ℕ) (h : HeadTree) → every TermGood h.terms → Same t p (head_bytes kind h) → head_at t p ≡ laid_head h
unfolding head_bytes laid_head
head-decodes t p kind h g s =
    let rest = same-rest t p kind (h.symbol ∷ places_bytes term_bytes 5 4 h.terms) s in
    let e : p + 1 + 1 ≡ p + 2 = omega arith in
    let named : get_or t (p + 1) 0 ≡ h.symbol = same-first t (p + 1) h.symbol (places_bytes term_bytes 5 4 h.terms) rest in
    let placed : Same t (p + 2) (places_bytes term_bytes 5 4 h.terms) =
    same-at t (p + 1 + 1) (p + 2) _ e (same-rest t (p + 1) h.symbol (places_bytes term_bytes 5 4 h.terms) rest) in
    let slots = places-decode term_bytes 5 slot_of Unused t (slot_at t) term-long TermGood (term-decodes t) (unused-decodes t) (p + 2) 4 h.terms g placed in
    head-slots t p ∙ (λ i. record { symbol = record { 0 = named i }; slots = slots i })

pub head-encodes : (t : List ℕ) → AreBytes t → (p kind : ℕ) (h : HeadTree) → get_or t p 0 ≡ kind → head_at t p ≡ laid_head h → Same t p (head_bytes kind h)
unfolding head_bytes laid_head
head-encodes t u p kind h k e =
    let q = sym (head-slots t p) ∙ e in
    let placed : Same t (p + 2) (places_bytes term_bytes 5 4 h.terms) =
    places-encode term_bytes 5 slot_of Unused t (slot_at t) term-long (term-encodes t u) (unused-encodes t) (p + 2) 4 h.terms (ap (λ (x : Head). x.slots) q) in
    let d : p + 2 ≡ p + 1 + 1 = omega arith in
    same-more t p kind _ k (same-more t (p + 1) h.symbol _ (ap (λ (x : Head). x.symbol.0) q) (same-at t (p + 2) (p + 1 + 1) _ d placed))

-- the test of a head, on what is decoded
head-test : (t : List ℕ) (p symbols : ℕ)
    → head_bad t p symbols ≡ (leb symbols (head_at t p).symbol.0 || used_bad place_bad (arity_at t (head_at t p).symbol.0) (head_at t p).slots)
unfolding head_bad places_bad
head-test t p symbols =
    let a : p + 2 + 5 + 5 ≡ p + 2 + 10 = omega arith in
    let b : p + 2 + 10 + 5 ≡ p + 2 + 15 = omega arith in
    rw (head-slots t p, a, b)
    (ap (λ (x : Bool). leb symbols (get_or t (p + 1) 0) || x)
    (four-used place_bad (arity_at t (get_or t (p + 1) 0)) (slot_at t (p + 2)) (slot_at t (p + 2 + 5)) (slot_at t (p + 2 + 10)) (slot_at t (p + 2 + 15))))

-- ---- whether a variable stands in some heads

in-heads : (t : List ℕ) (p n v : ℕ) → in_heads t p n v ≡ heads_have v (heads_from t p n)
unfolding in_heads head_has heads_from head_at
in-heads t p zero v = refl
in-heads t p (suc n) v = rw (in-heads t (p + 22) n v, or-none (is_variable (slot_at t (p + 17)) v))

-- whether an expression has a variable that none of the heads of the rule at `start` has
abbrev pub expression_strange : List ℕ → ℕ → ℕ → Expression → Bool
expression_strange t start n e = strange_slot t start n e.left || strange_slot t start n e.right

module _ (t : List ℕ) (start n : ℕ) (hs : List HeadTree) (read : heads_from t (start + 1) n ≡ map laid_head hs) where
  pub term-known : every (λ (h : HeadTree). length h.terms ≤ 4) hs → (a : Term) → TermKnown (head_terms hs) a → strange_slot t start n (slot_of a) ≡ false
  unfolding strange_slot
  term-known few (constant z) k = refl
  term-known few (variable v) k =
      let here : in_heads t (start + 1) n v ≡ true = in-heads t (start + 1) n v ∙ ap (heads_have v) read ∙ heads-have v hs few k in
      rw here

  pub known-term : (a : Term) → strange_slot t start n (slot_of a) ≡ false → TermKnown (head_terms hs) a
  unfolding strange_slot
  known-term (constant z) e = tt
  known-term (variable v) e =
      have-heads v hs (sym (ap (heads_have v) read) ∙ sym (in-heads t (start + 1) n v) ∙ not-false (in_heads t (start + 1) n v) e)

  unused-known : strange_slot t start n Unused ≡ false
  unfolding strange_slot
  unused-known = refl

  pub none-known : expression_strange t start n no_expression ≡ false
  none-known = or-both (strange_slot t start n Unused) _ unused-known unused-known

  pub formula-known : every (λ (h : HeadTree). length h.terms ≤ 4) hs → (e : Formula) → FormulaKnown (head_terms hs) e
      → expression_strange t start n (expression_of e) ≡ false
  formula-known few (alone a) k = or-both (strange_slot t start n (slot_of a)) _ (term-known few a k) unused-known
  formula-known few (applied o a b) k = or-both (strange_slot t start n (slot_of a)) _ (term-known few a k.0) (term-known few b k.1)

  pub known-formula : (e : Formula) → expression_strange t start n (expression_of e) ≡ false → FormulaKnown (head_terms hs) e
  known-formula (alone a) e = known-term a (or-false-left (strange_slot t start n (slot_of a)) _ e)
  known-formula (applied o a b) e =
      (known-term a (or-false-left (strange_slot t start n (slot_of a)) _ e), known-term b (or-false-right (strange_slot t start n (slot_of a)) _ e))

-- ---- guards

pub guard-long : (g : GuardTree) → length (guard_bytes g) ≡ 24
unfolding guard_bytes
guard-long g = omega (arith, length-append (formula_bytes g.left) (formula_bytes g.right), formula-long g.left, formula-long g.right)

pub guard-decodes : (t : List ℕ) (p : ℕ) (g : GuardTree) → FormulaGood g.left → FormulaGood g.right → Same t p (guard_bytes g)
    → guard_at t p ≡ laid_guard g
unfolding guard_bytes guard_at laid_guard
guard-decodes t p g l r s =
    let c = comparator_number g.comparator in
    let x = formula_bytes g.left in
    let y = formula_bytes g.right in
    let rest = same-rest t p 5 (c ∷ (x ++ y)) s in
    let named : get_or t (p + 1) 0 ≡ c = same-first t (p + 1) c (x ++ y) rest in
    let both : Same t (p + 2) (x ++ y) = same-at t (p + 1 + 1) (p + 2) (x ++ y) (omega arith) (same-rest t (p + 1) c (x ++ y) rest) in
    let left = formula-decodes t (p + 2) g.left l (same-left t (p + 2) x y both) in
    let right = formula-decodes t (p + 13) g.right r
    (same-at t (p + 2 + length x) (p + 13) y (omega (arith, formula-long g.left)) (same-right t (p + 2) x y both)) in
    λ i. record { comparator = named i; left = left i; right = right i }

pub guard-encodes : (t : List ℕ) → AreBytes t → (p : ℕ) (g : GuardTree) → get_or t p 0 ≡ 5 → guard_at t p ≡ laid_guard g → Same t p (guard_bytes g)
unfolding guard_bytes guard_at laid_guard
guard-encodes t u p g k e =
    let x = formula_bytes g.left in
    let y = formula_bytes g.right in
    let left : Same t (p + 2) x = formula-encodes t u (p + 2) g.left (ap (λ (q : Guard). q.left) e) in
    let right : Same t (p + 13) y = formula-encodes t u (p + 13) g.right (ap (λ (q : Guard). q.right) e) in
    let both = same-both t (p + 2) x y left (same-at t (p + 13) (p + 2 + length x) y (omega (arith, formula-long g.left)) right) in
    same-more t p 5 _ k (same-more t (p + 1) _ (x ++ y) (ap (λ (q : Guard). q.comparator) e) (same-at t (p + 2) (p + 1 + 1) (x ++ y) (omega arith) both))

guard-test : (t : List ℕ) (p : ℕ)
    → guard_bad t p ≡ (ltb 5 (guard_at t p).comparator || (expression_wrong true (guard_at t p).left || expression_wrong true (guard_at t p).right))
unfolding guard_bad expression_bad guard_at expression_at
guard-test t p = refl

pub guard-passes : (t : List ℕ) (p : ℕ) (g : GuardTree) → guard_at t p ≡ laid_guard g → guard_bad t p ≡ false
unfolding laid_guard
guard-passes t p g e =
    rw (guard-test t p, e)
    (or-both (ltb 5 (comparator_number g.comparator)) _ (comparator-few g.comparator)
    (or-both (expression_wrong true (expression_of g.left)) _ (formula-used g.left) (formula-used g.right)))

-- a side of a guard that is used
side : (e : Expression) → PlaceUsed expression_of FormulaGood e (formulas_in e) → (e ≡ expression_of (formula_in e)) × FormulaGood (formula_in e)
unfolding formula_in
side e q = rw q.one (q.same, q.good)

pub record GuardFits (t : List ℕ) (p : ℕ) (g : GuardTree) : Type 0 where
  pub same : guard_at t p ≡ laid_guard g
  pub left : FormulaGood g.left
  pub right : FormulaGood g.right

pub guard-fits : (t : List ℕ) → AreBytes t → (p : ℕ) → guard_bad t p ≡ false → GuardFits t p (guard_tree (guard_at t p))
unfolding guard_tree laid_guard guard_at
guard-fits t u p e =
    let q = sym (guard-test t p) ∙ e in
    let few : get_or t (p + 1) 0 ≤ 5 = ltb-false 5 (get_or t (p + 1) 0) (or-false-left (ltb 5 (get_or t (p + 1) 0)) _ q) in
    let sides = or-false-right (ltb 5 (get_or t (p + 1) 0)) _ q in
    let l = side (expression_at t (p + 2))
    (expression-used _ (or-false-left (expression_wrong true (expression_at t (p + 2))) _ sides) (expression-held t u (p + 2))) in
    let r = side (expression_at t (p + 13))
    (expression-used _ (or-false-right (expression_wrong true (expression_at t (p + 2))) _ sides) (expression-held t u (p + 13))) in
    record {
      same = λ i. record { comparator = sym (comparator-numbered (get_or t (p + 1) 0) few) i; left = l.0 i; right = r.0 i };
      left = l.1;
      right = r.1;
    }

pub guard-strange : (t : List ℕ) (start n p : ℕ)
    → strange_guard t start n p ≡ (expression_strange t start n (guard_at t p).left || expression_strange t start n (guard_at t p).right)
unfolding strange_guard strange_expression guard_at expression_at
guard-strange t start n p = refl

-- ---- body items

-- four expressions behind the symbol
abbrev pub formulas_at : List ℕ → ℕ → List Expression
formulas_at t p = rows_at (expression_at t) 11 (p + 2) 4

fact-formulas : (t : List ℕ) (p : ℕ) → body_fact_at t p ≡ body_fact (symbol_at t (p + 1)) (formulas_at t p)
unfolding body_fact_at
fact-formulas t p =
    let a : p + 2 + 11 ≡ p + 13 = omega arith in
    let b : p + 13 + 11 ≡ p + 24 = omega arith in
    let c : p + 24 + 11 ≡ p + 35 = omega arith in
    rw (a, b, c)

pub fact-test : (t : List ℕ) (p symbols : ℕ)
    → body_fact_bad t p symbols ≡ (leb symbols (get_or t (p + 1) 0) || used_bad expression_wrong (arity_at t (get_or t (p + 1) 0)) (formulas_at t p))
unfolding body_fact_bad arguments_bad expression_bad expression_at
fact-test t p symbols =
    let a : p + 2 + 11 + 11 ≡ p + 2 + 22 = omega arith in
    let b : p + 2 + 22 + 11 ≡ p + 2 + 33 = omega arith in
    rw (a, b)
    (ap (λ (x : Bool). leb symbols (get_or t (p + 1) 0) || x)
    (four-used expression_wrong (arity_at t (get_or t (p + 1) 0)) (expression_at t (p + 2)) (expression_at t (p + 2 + 11)) (expression_at t (p + 2 + 22))
    (expression_at t (p + 2 + 33))))

pub fact-strange : (t : List ℕ) (start n p : ℕ) → strange_fact t start n p ≡ any_of (expression_strange t start n) (formulas_at t p)
unfolding strange_fact strange_expression expression_at
fact-strange t start n p =
    let a : p + 2 + 11 ≡ p + 13 = omega arith in
    let b : p + 13 + 11 ≡ p + 24 = omega arith in
    let c : p + 24 + 11 ≡ p + 35 = omega arith in
    rw (a, b, c, or-none (expression_strange t start n (expression_at t (p + 35))))

-- a body fact, with its expressions listed
pub item-fact : (t : List ℕ) (p : ℕ) → is_fact t p ≡ true → item_at t p ≡ body_fact (symbol_at t (p + 1)) (formulas_at t p)
unfolding item_at
item-fact t p e = rw e (fact-formulas t p)

pub fact-long : (s : ℕ) (es : List Formula) → length (item_bytes (fact s es)) ≡ 46
unfolding item_bytes
fact-long s es = omega (arith, places-long formula_bytes 11 formula-long 4 es)

pub record FactReads (t : List ℕ) (p s : ℕ) (es : List Formula) : Type 0 where
  pub symbol : get_or t (p + 1) 0 ≡ s
  pub formulas : formulas_at t p ≡ laid_places expression_of no_expression 4 es

pub fact-decodes : (t : List ℕ) (p s : ℕ) (es : List Formula) → every FormulaGood es → Same t p (item_bytes (fact s es)) → FactReads t p s es
unfolding item_bytes
fact-decodes t p s es g q =
    let placed = places_bytes formula_bytes 11 4 es in
    let rest = same-rest t p 6 (s ∷ placed) q in
    record {
      symbol = same-first t (p + 1) s placed rest;
      formulas =
          places-decode formula_bytes 11 expression_of no_expression t (expression_at t) formula-long FormulaGood (formula-decodes t) (none-decodes t)
          (p + 2) 4 es
          g
          (same-at t (p + 1 + 1) (p + 2) placed (omega arith) (same-rest t (p + 1) s placed rest));
    }

pub fact-encodes : (t : List ℕ) → AreBytes t → (p s : ℕ) (es : List Formula) → get_or t p 0 ≡ 6 → FactReads t p s es → Same t p (item_bytes (fact s es))
unfolding item_bytes
fact-encodes t u p s es k q =
    let placed = places_bytes formula_bytes 11 4 es in
    let there : Same t (p + 2) placed =
    places-encode formula_bytes 11 expression_of no_expression t (expression_at t) formula-long (formula-encodes t u) (none-encodes t)
    (p + 2) 4 es q.formulas in
    same-more t p 6 (s ∷ placed) k (same-more t (p + 1) s placed q.symbol (same-at t (p + 2) (p + 1 + 1) placed (omega arith) there))

pub fact-laid : (t : List ℕ) (p s : ℕ) (es : List Formula) → is_fact t p ≡ true → FactReads t p s es → item_at t p ≡ laid_item (fact s es)
unfolding laid_item
fact-laid t p s es k q = item-fact t p k ∙ (λ i. body_fact (record { 0 = q.symbol i }) (q.formulas i))

pub fail-laid : (t : List ℕ) (p : ℕ) → is_fact t p ≡ false → item_at t p ≡ laid_item fail
unfolding laid_item
fail-laid t p k = item-fail t p k

-- ---- with the arities of the symbols

module _ (arities : List ℕ) (small : every (λ (a : ℕ). a ≤ 4) arities) where
  pub uses-few : (s n : ℕ) → Uses arities s n → n ≤ 4
  uses-few s n w = let h : get_or arities s 0 ≤ 4 = every-get_d (λ (a : ℕ). a ≤ 4) arities s 0 small (omega arith) in omega (arith, w.uses)

  pub heads-few : (hs : List HeadTree) → every (HeadGood arities) hs → every (λ (h : HeadTree). length h.terms ≤ 4) hs
  heads-few hs u =
      every-weaken (HeadGood arities) (λ (h : HeadTree). length h.terms ≤ 4) (λ h g. uses-few h.symbol (length h.terms) g.symbol) hs u

module _ (t arities : List ℕ) (declared : (k : ℕ) → k < length arities → arity_at t k ≡ get_or arities k 0) (small : every (λ (a : ℕ). a ≤ 4) arities) where
  -- the arity of a symbol that is used
  uses-arity : (s n : ℕ) → Uses arities s n → arity_at t s ≡ n
  uses-arity s n w = declared s w.declared ∙ sym w.uses

  uses-of : (s n : ℕ) → leb (length arities) s ≡ false → n ≡ arity_at t s → Uses arities s n
  uses-of s n e d =
      let h : s < length arities = leb-false (length arities) s e in
      record { declared = h; uses = d ∙ declared s h }

  arity-few : (s : ℕ) → leb (length arities) s ≡ false → arity_at t s ≤ 4
  arity-few s e = uses-few arities small s (arity_at t s) (uses-of s (arity_at t s) e refl)

  pub head-passes : (p : ℕ) (h : HeadTree) → HeadGood arities h → head_at t p ≡ laid_head h → head_bad t p (length arities) ≡ false
  unfolding laid_head
  head-passes p h g e =
      rw (head-test t p (length arities), e, uses-arity h.symbol (length h.terms) g.symbol)
      (or-both (leb (length arities) h.symbol) _ (lt-leb (length arities) h.symbol g.symbol.declared)
      (laid-used slot_of Unused place_bad TermGood (λ a k. term-used a) slot-unused 4 h.terms
      (uses-few arities small h.symbol (length h.terms) g.symbol)
      g.terms))

  pub record HeadFits (p : ℕ) (h : HeadTree) : Type 0 where
    pub same : head_at t p ≡ laid_head h
    pub good : HeadGood arities h

  pub head-fits : AreBytes t → (p : ℕ) → head_bad t p (length arities) ≡ false → HeadFits p (head_tree (head_at t p))
  unfolding head_tree laid_head
  head-fits u p e =
      let q = sym (head-test t p (length arities)) ∙ e in
      let s : ℕ = get_or t (p + 1) 0 in
      let q' : (leb (length arities) s || used_bad place_bad (arity_at t s) (slots_at t (p + 2))) ≡ false = rw (head-slots t p) at q in
      let known = or-false-left (leb (length arities) s) _ q' in
      let w = used-laid slot_of Unused place_bad TermGood terms_in SlotHeld slot-used slot-blank (arity_at t s) (slots_at t (p + 2)) (arity-few s known)
      (slot-held t u (p + 2), (slot-held t u (p + 2 + 5), (slot-held t u (p + 2 + 5 + 5), (slot-held t u (p + 2 + 5 + 5 + 5), tt))))
      (or-false-right (leb (length arities) s) _ q') in
      rw (head-slots t p) (record {
        same = head-slots t p ∙ (λ i. record { symbol = symbol_at t (p + 1); slots = w.same i });
        good = record { symbol = uses-of s _ known w.long; terms = w.good };
      })

  pub fact-passes : (p s : ℕ) (es : List Formula) → Uses arities s (length es) → every FormulaGood es → FactReads t p s es
      → body_fact_bad t p (length arities) ≡ false
  fact-passes p s es w g q =
      rw (fact-test t p (length arities), q.symbol, q.formulas, uses-arity s (length es) w)
      (or-both (leb (length arities) s) _ (lt-leb (length arities) s w.declared)
      (laid-used expression_of no_expression expression_wrong FormulaGood (λ e k. formula-used e) none-unused 4 es (uses-few arities small s (length es) w) g))

  pub record FactFits (p s : ℕ) (es : List Formula) : Type 0 where
    pub reads : FactReads t p s es
    pub uses : Uses arities s (length es)
    pub good : every FormulaGood es

  pub fact-fits : AreBytes t → (p : ℕ) → body_fact_bad t p (length arities) ≡ false → FactFits p (get_or t (p + 1) 0) (used_of formulas_in (formulas_at t p))
  fact-fits u p e =
      let s : ℕ = get_or t (p + 1) 0 in
      let q = sym (fact-test t p (length arities)) ∙ e in
      let known = or-false-left (leb (length arities) s) _ q in
      let w = used-laid expression_of no_expression expression_wrong FormulaGood formulas_in ExpressionHeld expression-used expression-blank (arity_at t s)
      (formulas_at t p) (arity-few s known) (
        expression-held t u (p + 2),
        (expression-held t u (p + 2 + 11), (expression-held t u (p + 2 + 11 + 11), (expression-held t u (p + 2 + 11 + 11 + 11), tt))),
      )
      (or-false-right (leb (length arities) s) _ q) in
      record { reads = record { symbol = refl; formulas = w.same }; uses = uses-of s _ known w.long; good = w.good }
