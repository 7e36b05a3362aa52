-- What a good table decodes to, from its bytes: in every rule each head, guard and body fact is as document 01 says, and each variable of a guard or
-- of a body fact stands in a head. Each part passed its tests (Whole); here the tests' answers are turned into what they say of the decoded parts.
-- Last, the same of a good goal's facts.
use Prim.Native.Nat.{ℕ, zero, suc, ◌+◌, ◌*◌, ◌/◌, ◌≤◌, ◌<◌}
use mathlib.Core.Path.{◌≡◌, refl, sym, ap}
use mathlib.Core.Logic.{◌⊎◌, inl, inr}
use mathlib.Core.Bool.{Bool, true, false, cond, ◌||◌}
use mathlib.Core.List.{List, [], ◌∷◌, Memᴰ}
use native.Mathlib.Omega.{arith}
use lib.IntN.{ℤ, pos}
use lib.Dec.{ltb, leb, eqb}
use lib.ListN.{length, get_or, take}
use borrow.Author.Tests.{ltb-true, ltb-false, lt-ltb, le-ltb, leb-false, eqb-true, not-false}
use Rattle.wire.specs.Wire.{u32_at, signed_of, i32_at}
use Rattle.model.specs.declared.Symbol.{Symbol}
use Rattle.model.specs.declared.Fact.{Fact}
use Rattle.model.specs.declared.Slot.{Slot}
use Rattle.model.specs.declared.Slot.TheVariants.{Unused, Constant, Variable, Bad}
use Rattle.model.specs.declared.Expression.{Expression}
use Rattle.model.specs.declared.RuleNumber.{RuleNumber}
use Rattle.model.specs.declared.RuleShape.{RuleShape}
use Rattle.std.specs.Prelude.{Ok}
use Rattle.model.specs.Slots.{slot_by, slot_at, expression_at}
use Rattle.model.specs.Fields.{place_bad, arity_at, places_bad, top_of, expression_bad, arguments_bad, head_bad, guard_bad, body_fact_bad}
use Rattle.model.specs.Variables.{is_variable, head_has, in_heads, strange_slot, strange_expression, strange_guard, strange_fact}
use Rattle.model.specs.Reading.{read_of}
use Rattle.model.specs.Table.{Head, Guard, BodyItem, body_fact, body_fail, Rule, heads, head_at, guard_at, body_fact_at, is_fact, item_at}
use Rattle.model.specs.Table.{behind_item, heads_from, guards_from, items_from, heads_start, guards_start, items_start, rule_of, table_of}
use Rattle.model.specs.Table.{no_rule, rule_at}
use Rattle.model.specs.Matching.{arguments}
use Rattle.model.specs.Goal.{fact_at, goal_verdict, goal_of}
use Rattle.model.proofs.Every.{every, every-by, every-map, every-both, every-weaken}
use Rattle.model.proofs.Lists.{every-get_d, or-false-left, or-false-right, or-true, never}
use Rattle.model.proofs.Good.{GoodRule, good-table, whole-goal, below-four}
use Rattle.model.proofs.Whole.{ItemWhole, ItemsWhole, GuardWhole, RuleWhole, RulesWhole, whole-table}
use Rattle.model.proofs.Decoded.{heads-more, heads-length, heads-at, guards-length, guards-at, items-none, items-more, rule-heads}
use Rattle.model.proofs.Decoded.{rule-guards, rule-body, table-symbols, table-rules, every-shape, goal-length, goal-at}

-- ---- what holds of each expression of a rule: of both sides of each comparison, and of each argument of each body fact

pub record OfGuard (P : Expression → Type 0) (g : Guard) : Type 0 where
  pub left : P g.left
  pub right : P g.right

abbrev pub OfItem : (Expression → Type 0) → BodyItem → Type 0
OfItem P (body_fact s es) = every P es
OfItem P body_fail = Unit {0}

pub record EachExpression (P : Expression → Type 0) (r : Rule) : Type 0 where
  pub guards : every (OfGuard P) r.guards
  pub body : every (OfItem P) r.body

pub each-weaken : (P Q : Expression → Type 0) → ((e : Expression) → P e → Q e) → (r : Rule) → EachExpression P r → EachExpression Q r
each-weaken P Q f r u = record {
  guards = every-weaken (OfGuard P) (OfGuard Q) (λ g v. record { left = f g.left v.left; right = f g.right v.right }) r.guards u.guards;
  body = every-weaken (OfItem P) (OfItem Q) item r.body u.body;
}
  where
    item : (i : BodyItem) → OfItem P i → OfItem Q i
    item (body_fact s es) v = every-weaken P Q f es v
    item body_fail v = tt

-- ---- slots

-- a place that is used: "1 constant; 2 variable, value 0..15"
abbrev pub UsedSlot : Slot → Type 0
UsedSlot Unused = ⊥
UsedSlot (Constant z) = Unit {0}
UsedSlot (Variable v) = v < 16
UsedSlot Bad = ⊥

-- a place as it should be, used or not
abbrev pub PlaceIs : Bool → Slot → Type 0
PlaceIs true s = UsedSlot s
PlaceIs false s = s ≡ Unused

-- ---- a variable that stands in a head: a head has a place for each of the four arguments of a fact

abbrev pub Stands : List Head → ℕ → Type 0
Stands hs v = (h : Head) × Memᴰ h hs × Memᴰ (Variable v) (take 4 h.slots)

-- "guard or body variable in no head" is refused with 22: a slot that is a variable stands in one of the heads

abbrev pub SlotIn : List Head → Slot → Type 0
SlotIn hs Unused = Unit {0}
SlotIn hs (Constant z) = Unit {0}
SlotIn hs (Variable v) = Stands hs v
SlotIn hs Bad = Unit {0}

pub record ExpressionIn (hs : List Head) (e : Expression) : Type 0 where
  pub left : SlotIn hs e.left
  pub right : SlotIn hs e.right

abbrev pub GuardIn : List Head → Guard → Type 0
GuardIn hs g = OfGuard (ExpressionIn hs) g

-- each variable of the guards stands in a head
abbrev pub Covered : Rule → Type 0
Covered r = every (GuardIn (heads r)) r.guards

-- ---- the parts of a good rule. `symbols` are declared, and t has their arities

-- "kept / removed head: symbol, four slots"; "A symbol of arity a uses the first a places. Each later place is zero in every byte."
pub record GoodHead (t : List ℕ) (symbols : ℕ) (h : Head) : Type 0 where
  pub declared : h.symbol.0 < symbols
  pub arity : arity_at t h.symbol.0 ≤ 4
  pub four : length h.slots ≡ 4
  pub used : (i : ℕ) → i < arity_at t h.symbol.0 → UsedSlot (get_or h.slots i Unused)
  pub unused : (i : ℕ) → arity_at t h.symbol.0 ≤ i → i < 4 → get_or h.slots i Unused ≡ Unused

-- "0 the first slot alone (the second unused), 1 sum, 2 difference, 3 product, 4 quotient, 5 remainder"
pub record GoodExpression (e : Expression) : Type 0 where
  pub operation : e.operation ≤ 5
  pub first : UsedSlot e.left
  pub alone : e.operation ≡ 0 → e.right ≡ Unused
  pub second : 1 ≤ e.operation → UsedSlot e.right

-- a place that is zero in every byte
abbrev pub no_expression : Expression
no_expression = record { operation = 0; left = Unused; right = Unused }

-- "guard comparison: comparator, two expressions"; "Comparators 0..5"
pub record GoodGuard (hs : List Head) (g : Guard) : Type 0 where
  pub comparator : g.comparator ≤ 5
  pub left : GoodExpression g.left
  pub right : GoodExpression g.right
  pub bound : GuardIn hs g

-- "body fact: symbol, four expressions"
pub record GoodFact (t : List ℕ) (symbols : ℕ) (hs : List Head) (s : Symbol) (es : List Expression) : Type 0 where
  pub declared : s.0 < symbols
  pub arity : arity_at t s.0 ≤ 4
  pub four : length es ≡ 4
  pub used : (i : ℕ) → i < arity_at t s.0 → GoodExpression (get_or es i no_expression)
  pub unused : (i : ℕ) → arity_at t s.0 ≤ i → i < 4 → get_or es i no_expression ≡ no_expression
  pub bound : every (ExpressionIn hs) es

abbrev pub GoodItem : List ℕ → ℕ → List Head → BodyItem → Type 0
GoodItem t symbols hs (body_fact s es) = GoodFact t symbols hs s es
GoodItem t symbols hs body_fail = Unit {0}

pub record GoodParts (t : List ℕ) (symbols : ℕ) (r : Rule) : Type 0 where
  pub each_head : every (GoodHead t symbols) (heads r)
  pub each_guard : every (GoodGuard (heads r)) r.guards
  pub each_item : every (GoodItem t symbols (heads r)) r.body

-- ---- four places, by their index

pub four-at : {A : Type 0} (P : ℕ → A → Type 0) (a b c d x : A) → P 0 a → P 1 b → P 2 c → P 3 d → (i : ℕ) → i < 4
    → P i (get_or (a ∷ b ∷ c ∷ d ∷ []) i x)
four-at P a b c d x p q r s = below-four (λ (i : ℕ). P i (get_or (a ∷ b ∷ c ∷ d ∷ []) i x)) p q r s

module _ {A : Type 0} (P : Bool → A → Type 0) (arity i : ℕ) (x : A) (p : P (ltb i arity) x) where
  at-used : i < arity → P true x
  at-used l = rw (lt-ltb i arity l) at p

  at-later : arity ≤ i → P false x
  at-later l = rw (le-ltb i arity l) at p

-- ---- what the tests of a slot tell

-- "variable, value 0..15"
abbrev SmallSlot : Slot → Type 0
SmallSlot Unused = Unit {0}
SmallSlot (Constant z) = Unit {0}
SmallSlot (Variable v) = v < 16
SmallSlot Bad = Unit {0}

slot-small : (t : List ℕ) (p : ℕ) → SmallSlot (slot_at t p)
unfolding slot_at slot_by
slot-small t p = go (eqb (get_or t p 0) 0) (eqb (get_or t p 0) 1) (eqb (get_or t p 0) 2) (eqb (u32_at t (p + 1)) 0) (ltb (u32_at t (p + 1)) 16) refl
  where
    go : (a b c z l : Bool) → ltb (u32_at t (p + 1)) 16 ≡ l
        → SmallSlot (cond a (cond z Unused Bad) (cond b (Constant (signed_of (u32_at t (p + 1)))) (cond c (cond l (Variable (u32_at t (p + 1))) Bad) Bad)))
    go true b c true l e = tt
    go true b c false l e = tt
    go false true c z l e = tt
    go false false true z true e = ltb-true (u32_at t (p + 1)) 16 e
    go false false true z false e = tt
    go false false false z l e = tt

place-is : (used : Bool) (s : Slot) → SmallSlot s → place_bad used s ≡ false → PlaceIs used s
unfolding place_bad
place-is true Unused k e = never e
place-is true (Constant z) k e = tt
place-is true (Variable v) k e = k
place-is true Bad k e = never e
place-is false Unused k e = refl
place-is false (Constant z) k e = never e
place-is false (Variable v) k e = never e
place-is false Bad k e = never e

slot-is : (t : List ℕ) (p : ℕ) (used : Bool) → place_bad used (slot_at t p) ≡ false → PlaceIs used (slot_at t p)
slot-is t p used e = place-is used (slot_at t p) (slot-small t p) e

-- ---- what 22 tells: a variable that is in a head of the bytes stands in a decoded head

-- only the variable itself counts as it
is-that : (s : Slot) (v : ℕ) → is_variable s v ≡ true → Variable v ≡ s
unfolding is_variable
is-that Unused v e = never (sym e)
is-that (Constant z) v e = never (sym e)
is-that (Variable w) v e = ap Variable (sym (eqb-true w v e))
is-that Bad v e = never (sym e)

module _ (t : List ℕ) (v : ℕ) where
  head-has : (p : ℕ) → head_has t p v ≡ true → Memᴰ (Variable v) (head_at t p).slots
  unfolding head_has head_at
  head-has p e = first (or-true (is_variable (slot_at t (p + 2)) v) _ e)
    where
      third : (is_variable (slot_at t (p + 12)) v ≡ true) ⊎ (is_variable (slot_at t (p + 17)) v ≡ true)
          → Memᴰ (Variable v) (slot_at t (p + 12) ∷ slot_at t (p + 17) ∷ [])
      third (inl q) = Memᴰ.head (is-that (slot_at t (p + 12)) v q)
      third (inr q) = Memᴰ.tail (Memᴰ.head (is-that (slot_at t (p + 17)) v q))

      second : (is_variable (slot_at t (p + 7)) v ≡ true) ⊎ ((is_variable (slot_at t (p + 12)) v || is_variable (slot_at t (p + 17)) v) ≡ true)
          → Memᴰ (Variable v) (slot_at t (p + 7) ∷ slot_at t (p + 12) ∷ slot_at t (p + 17) ∷ [])
      second (inl q) = Memᴰ.head (is-that (slot_at t (p + 7)) v q)
      second (inr q) = Memᴰ.tail (third (or-true (is_variable (slot_at t (p + 12)) v) _ q))

      first : (is_variable (slot_at t (p + 2)) v ≡ true)
          ⊎ ((is_variable (slot_at t (p + 7)) v || (is_variable (slot_at t (p + 12)) v || is_variable (slot_at t (p + 17)) v)) ≡ true)
          → Memᴰ (Variable v) (slot_at t (p + 2) ∷ slot_at t (p + 7) ∷ slot_at t (p + 12) ∷ slot_at t (p + 17) ∷ [])
      first (inl q) = Memᴰ.head (is-that (slot_at t (p + 2)) v q)
      first (inr q) = Memᴰ.tail (second (or-true (is_variable (slot_at t (p + 7)) v) _ q))

  stands-first : (p : ℕ) (hs : List Head) → Memᴰ (Variable v) (head_at t p).slots → Stands (head_at t p ∷ hs) v
  unfolding head_at
  stands-first p hs m = (head_at t p, Memᴰ.head refl, m)

  in-heads : (p n : ℕ) → in_heads t p n v ≡ true → Stands (heads_from t p n) v
  unfolding in_heads
  in-heads p zero e = never (sym e)
  in-heads p (suc n) e = rw (heads-more t p n) (go (or-true (head_has t p v) (in_heads t (p + 22) n v) e) (in-heads (p + 22) n))
    where
      go : (head_has t p v ≡ true) ⊎ (in_heads t (p + 22) n v ≡ true) → (in_heads t (p + 22) n v ≡ true → Stands (heads_from t (p + 22) n) v)
          → Stands (head_at t p ∷ heads_from t (p + 22) n) v
      go (inl q) ih = stands-first p (heads_from t (p + 22) n) (head-has p q)
      go (inr q) ih = let s = ih q in (s.0, Memᴰ.tail s.1, s.2)

module _ (t : List ℕ) (start n : ℕ) where
  slot-in : (s : Slot) → strange_slot t start n s ≡ false → SlotIn (heads_from t (start + 1) n) s
  unfolding strange_slot
  slot-in Unused e = tt
  slot-in (Constant z) e = tt
  slot-in (Variable v) e = in-heads t v (start + 1) n (not-false (in_heads t (start + 1) n v) e)
  slot-in Bad e = tt

  expression-in : (p : ℕ) → strange_expression t start n p ≡ false → ExpressionIn (heads_from t (start + 1) n) (expression_at t p)
  unfolding strange_expression expression_at
  expression-in p e = record {
    left = slot-in (slot_at t (p + 1)) (or-false-left (strange_slot t start n (slot_at t (p + 1))) _ e);
    right = slot-in (slot_at t (p + 6)) (or-false-right (strange_slot t start n (slot_at t (p + 1))) _ e);
  }

-- ---- what the tests of an expression tell

-- an expression as it should be, used or not
abbrev ExpressionIs : Bool → Expression → Type 0
ExpressionIs true e = GoodExpression e
ExpressionIs false e = e ≡ no_expression

module _ (t : List ℕ) (p : ℕ) where
  second-alone : place_bad (ltb 0 (get_or t p 0)) (slot_at t (p + 6)) ≡ false → get_or t p 0 ≡ 0 → slot_at t (p + 6) ≡ Unused
  second-alone e z = slot-is t (p + 6) false (rw z at e)

  second-used : place_bad (ltb 0 (get_or t p 0)) (slot_at t (p + 6)) ≡ false → 1 ≤ get_or t p 0 → UsedSlot (slot_at t (p + 6))
  second-used e l = slot-is t (p + 6) true (rw (lt-ltb 0 (get_or t p 0) l) at e)

  expression-is : (used : Bool) → expression_bad t p used ≡ false → ExpressionIs used (expression_at t p)
  unfolding expression_bad top_of expression_at
  expression-is true e =
      let rest = or-false-right (ltb 5 (get_or t p 0)) _ e in
      let last = or-false-right (place_bad true (slot_at t (p + 1))) _ rest in
      record {
        operation = ltb-false 5 (get_or t p 0) (or-false-left (ltb 5 (get_or t p 0)) _ e);
        first = slot-is t (p + 1) true (or-false-left (place_bad true (slot_at t (p + 1))) _ rest);
        alone = second-alone last;
        second = second-used last;
      }
  expression-is false e =
      let rest = or-false-right (ltb 0 (get_or t p 0)) _ e in
      let last = or-false-right (place_bad false (slot_at t (p + 1))) _ rest in
      let zeroed : get_or t p 0 ≡ 0 = omega (arith, ltb-false 0 (get_or t p 0) (or-false-left (ltb 0 (get_or t p 0)) _ e)) in
      let left : slot_at t (p + 1) ≡ Unused = slot-is t (p + 1) false (or-false-left (place_bad false (slot_at t (p + 1))) _ rest) in
      let right : slot_at t (p + 6) ≡ Unused = second-alone last zeroed in
      rw (zeroed, left, right)

-- ---- the parts, where they lie

module _ (t : List ℕ) (symbols : ℕ) (arities : (i : ℕ) → i < symbols → get_or t (2 * i + 1) 0 ≤ 4) where
  arity-few : (s : ℕ) → s < symbols → arity_at t s ≤ 4
  unfolding arity_at
  arity-few s l = arities s l

  -- the four places of the head at p
  places-are : (p arity : ℕ) → places_bad t (p + 2) arity ≡ false → (i : ℕ) → i < 4
      → PlaceIs (ltb i arity) (get_or (slot_at t (p + 2) ∷ slot_at t (p + 7) ∷ slot_at t (p + 12) ∷ slot_at t (p + 17) ∷ []) i Unused)
  unfolding places_bad
  places-are p arity bad =
      let x : p + 2 + 5 ≡ p + 7 = omega arith in
      let y : p + 2 + 10 ≡ p + 12 = omega arith in
      let z : p + 2 + 15 ≡ p + 17 = omega arith in
      let e = rw (x, y, z) at bad in
      let a = or-false-right (place_bad (ltb 0 arity) (slot_at t (p + 2))) _ e in
      let b = or-false-right (place_bad (ltb 1 arity) (slot_at t (p + 7))) _ a in
      four-at (λ (i : ℕ) (s : Slot). PlaceIs (ltb i arity) s) (slot_at t (p + 2)) (slot_at t (p + 7)) (slot_at t (p + 12)) (slot_at t (p + 17)) Unused
      (slot-is t (p + 2) (ltb 0 arity) (or-false-left (place_bad (ltb 0 arity) (slot_at t (p + 2))) _ e))
      (slot-is t (p + 7) (ltb 1 arity) (or-false-left (place_bad (ltb 1 arity) (slot_at t (p + 7))) _ a))
      (slot-is t (p + 12) (ltb 2 arity) (or-false-left (place_bad (ltb 2 arity) (slot_at t (p + 12))) _ b))
      (slot-is t (p + 17) (ltb 3 arity) (or-false-right (place_bad (ltb 2 arity) (slot_at t (p + 12))) _ b))

  head-good : (p : ℕ) → head_bad t p symbols ≡ false → GoodHead t symbols (head_at t p)
  unfolding head_bad head_at
  head-good p e =
      let s : ℕ = get_or t (p + 1) 0 in
      let declared : s < symbols = leb-false symbols s (or-false-left (leb symbols s) _ e) in
      let few : arity_at t s ≤ 4 = arity-few s declared in
      let is = places-are p (arity_at t s) (or-false-right (leb symbols s) _ e) in
      record {
        declared = declared;
        arity = few;
        four = refl;
        used = λ i l. at-used PlaceIs (arity_at t s) i _ (is i (omega arith)) l;
        unused = λ i l m. at-later PlaceIs (arity_at t s) i _ (is i m) l;
      }

  -- the four arguments of the body fact at p
  arguments-are : (p arity : ℕ) → arguments_bad t (p + 2) arity ≡ false → (i : ℕ) → i < 4
      → ExpressionIs (ltb i arity)
      (get_or (expression_at t (p + 2) ∷ expression_at t (p + 13) ∷ expression_at t (p + 24) ∷ expression_at t (p + 35) ∷ []) i no_expression)
  unfolding arguments_bad
  arguments-are p arity bad =
      let x : p + 2 + 11 ≡ p + 13 = omega arith in
      let y : p + 2 + 22 ≡ p + 24 = omega arith in
      let z : p + 2 + 33 ≡ p + 35 = omega arith in
      let e = rw (x, y, z) at bad in
      let a = or-false-right (expression_bad t (p + 2) (ltb 0 arity)) _ e in
      let b = or-false-right (expression_bad t (p + 13) (ltb 1 arity)) _ a in
      four-at (λ (i : ℕ) (x : Expression). ExpressionIs (ltb i arity) x) (expression_at t (p + 2)) (expression_at t (p + 13)) (expression_at t (p + 24))
      (expression_at t (p + 35)) no_expression
      (expression-is t (p + 2) (ltb 0 arity) (or-false-left (expression_bad t (p + 2) (ltb 0 arity)) _ e))
      (expression-is t (p + 13) (ltb 1 arity) (or-false-left (expression_bad t (p + 13) (ltb 1 arity)) _ a))
      (expression-is t (p + 24) (ltb 2 arity) (or-false-left (expression_bad t (p + 24) (ltb 2 arity)) _ b))
      (expression-is t (p + 35) (ltb 3 arity) (or-false-right (expression_bad t (p + 24) (ltb 2 arity)) _ b))

  module _ (start n : ℕ) where
    guard-good : (p : ℕ) → GuardWhole t start n p → GoodGuard (heads_from t (start + 1) n) (guard_at t p)
    unfolding guard_bad strange_guard guard_at
    guard-good p w =
        let rest = or-false-right (ltb 5 (get_or t (p + 1) 0)) _ w.fields in
        record {
          comparator = ltb-false 5 (get_or t (p + 1) 0) (or-false-left (ltb 5 (get_or t (p + 1) 0)) _ w.fields);
          left = expression-is t (p + 2) true (or-false-left (expression_bad t (p + 2) true) _ rest);
          right = expression-is t (p + 13) true (or-false-right (expression_bad t (p + 2) true) _ rest);
          bound = record {
            left = expression-in t start n (p + 2) (or-false-left (strange_expression t start n (p + 2)) _ w.usual);
            right = expression-in t start n (p + 13) (or-false-right (strange_expression t start n (p + 2)) _ w.usual);
          };
        }

    fact-good : (p : ℕ) → body_fact_bad t p symbols ≡ false → strange_fact t start n p ≡ false
        → GoodItem t symbols (heads_from t (start + 1) n) (body_fact_at t p)
    unfolding body_fact_bad strange_fact body_fact_at
    fact-good p e u =
        let s : ℕ = get_or t (p + 1) 0 in
        let declared : s < symbols = leb-false symbols s (or-false-left (leb symbols s) _ e) in
        let few : arity_at t s ≤ 4 = arity-few s declared in
        let is = arguments-are p (arity_at t s) (or-false-right (leb symbols s) _ e) in
        let a = or-false-right (strange_expression t start n (p + 2)) _ u in
        let b = or-false-right (strange_expression t start n (p + 13)) _ a in
        record {
          declared = declared;
          arity = few;
          four = refl;
          used = λ i l. at-used ExpressionIs (arity_at t s) i _ (is i (omega arith)) l;
          unused = λ i l m. at-later ExpressionIs (arity_at t s) i _ (is i m) l;
          bound = (
            expression-in t start n (p + 2) (or-false-left (strange_expression t start n (p + 2)) _ u),
            (
              expression-in t start n (p + 13) (or-false-left (strange_expression t start n (p + 13)) _ a),
              (
                expression-in t start n (p + 24) (or-false-left (strange_expression t start n (p + 24)) _ b),
                (expression-in t start n (p + 35) (or-false-right (strange_expression t start n (p + 24)) _ b), tt),
              ),
            ),
          );
        }

    item-good : (p : ℕ) → ItemWhole t symbols start n p → GoodItem t symbols (heads_from t (start + 1) n) (item_at t p)
    unfolding item_at
    item-good p w = go (is_fact t p) refl
      where
        go : (b : Bool) → is_fact t p ≡ b → GoodItem t symbols (heads_from t (start + 1) n) (cond b (body_fact_at t p) body_fail)
        go true e = fact-good p (w.fields e) (w.usual e)
        go false e = tt

    items-good : (p k q : ℕ) → ItemsWhole t symbols start n p k q → every (GoodItem t symbols (heads_from t (start + 1) n)) (items_from t p k)
    items-good p zero q w = rw (items-none t p) tt
    items-good p (suc k) q w = rw (items-more t p k) (item-good p w.0, items-good (behind_item t p) k q w.1)

  rule-good : (r : RuleShape) (q : ℕ) → r.kept ≤ r.heads → RuleWhole t symbols r q → GoodParts t symbols (rule_of t r)
  rule-good r q k w =
      let hs : List Head = heads_from t (heads_start r) r.heads in
      let e : heads (rule_of t r) ≡ hs = rule-heads t r k in
      record {
        each_head = rw e
            (every-by (GoodHead t symbols) hs (head_at t (heads_start r)) (λ i l.
            let m : i < r.heads = omega (arith, heads-length t (heads_start r) r.heads) in
            rw (heads-at t (heads_start r) r.heads i (head_at t (heads_start r)) m) (head-good (heads_start r + 22 * i) (w.heads i m))));
        each_guard = rw (e, rule-guards t r)
            (every-by (GoodGuard hs) (guards_from t (guards_start r) r.guards) (guard_at t (guards_start r)) (λ i l.
            let m : i < r.guards = omega (arith, guards-length t (guards_start r) r.guards) in
            rw (guards-at t (guards_start r) r.guards i (guard_at t (guards_start r)) m)
            (guard-good r.start r.heads (guards_start r + 24 * i) (w.guards i m))));
        each_item = rw (e, rule-body t r) (items-good r.start r.heads (items_start r) r.items q w.items);
      }

-- ---- the table

every-whole : (t : List ℕ) (symbols p : ℕ) (rs : List RuleShape) (q : ℕ) → RulesWhole t symbols p rs q
    → every (λ (r : RuleShape). (m : ℕ) × RuleWhole t symbols r m) rs
every-whole t symbols p [] q w = tt
every-whole t symbols p (r ∷ rs) q w = ((w.1.0, w.1.1), every-whole t symbols w.1.0 rs q w.1.2)

-- every rule of a good table is made of good parts
pub every-parts : (t : List ℕ) → (read_of t).verdict ≡ Ok tt → every (GoodParts t (table_of t).symbols) (table_of t).rules
every-parts t e =
    let w = whole-table t e in
    let n : ℕ = (read_of t).symbols in
    let rs : List RuleShape = take (read_of t).rules (read_of t).shapes in
    let W : RuleShape → Type 0 = λ r. (m : ℕ) × RuleWhole t n r m in
    rw (table-symbols t, table-rules t)
    (every-map (GoodParts t n) (rule_of t) rs
    (every-weaken (λ (r : RuleShape). GoodRule t n r × W r) (λ (r : RuleShape). GoodParts t n (rule_of t r))
    (λ r h. rule-good t n w.arities r h.1.0 h.0.kept_few h.1.1) rs
    (every-both (GoodRule t n) W rs (every-shape t (good-table t e)) (every-whole t n (2 * n) rs w.last w.rules))))

-- the same by number; where there is no rule of that number, there is no part
pub rule-parts : (t : List ℕ) → (read_of t).verdict ≡ Ok tt → (n : RuleNumber) → GoodParts t (table_of t).symbols (rule_at (table_of t) n)
unfolding rule_at
rule-parts t e n =
    every-get_d (GoodParts t (table_of t).symbols) (table_of t).rules n.0 no_rule (every-parts t e)
    (record { each_head = tt; each_guard = tt; each_item = tt })

-- so each variable of a guard or of a body stands in a head
pub variables-stand : (t : List ℕ) (symbols : ℕ) (r : Rule) → GoodParts t symbols r → EachExpression (ExpressionIn (heads r)) r
variables-stand t symbols r g = record {
  guards = every-weaken (GoodGuard (heads r)) (GuardIn (heads r)) (λ x q. q.bound) r.guards g.each_guard;
  body = every-weaken (GoodItem t symbols (heads r)) (OfItem (ExpressionIn (heads r))) item r.body g.each_item;
}
  where
    item : (i : BodyItem) → GoodItem t symbols (heads r) i → OfItem (ExpressionIn (heads r)) i
    item (body_fact s es) q = q.bound
    item body_fail q = tt

-- ---- a goal's facts

-- "goal fact: symbol, four arguments", of which each later one is zero
pub record GoodGoalFact (t : List ℕ) (symbols : ℕ) (f : Fact) : Type 0 where
  pub declared : f.symbol.0 < symbols
  pub later : (k : ℕ) → arity_at t f.symbol.0 ≤ k → k < 4 → get_or (arguments f) k (pos 0) ≡ pos 0

word-zero : (g : List ℕ) (p : ℕ) → u32_at g p ≡ 0 → i32_at g p ≡ pos 0
unfolding i32_at signed_of
word-zero g p e = rw e

goal-fact-is : (t : List ℕ) (symbols : ℕ) (g : List ℕ) (p : ℕ) → get_or g (p + 1) 0 < symbols
    → ((k : ℕ) → k < 4 → arity_at t (get_or g (p + 1) 0) ≤ k → u32_at g (p + 2 + 4 * k) ≡ 0) → GoodGoalFact t symbols (fact_at g p)
unfolding fact_at
goal-fact-is t symbols g p d u = record {
  declared = d;
  later = λ k l m.
      four-at (λ (i : ℕ) (z : ℤ). arity_at t (get_or g (p + 1) 0) ≤ i → z ≡ pos 0) (i32_at g (p + 2)) (i32_at g (p + 6)) (i32_at g (p + 10)) (i32_at g (p + 14))
      (pos 0)
      (at 0 (p + 2) (omega arith) (omega arith))
      (at 1 (p + 6) (omega arith) (omega arith))
      (at 2 (p + 10) (omega arith) (omega arith))
      (at 3 (p + 14) (omega arith) (omega arith)) k m l;
}
  where
    at : (k q : ℕ) → k < 4 → p + 2 + 4 * k ≡ q → arity_at t (get_or g (p + 1) 0) ≤ k → i32_at g q ≡ pos 0
    at k q m e n = word-zero g q (rw e at (u k m n))

pub every-goal-fact : (t : List ℕ) (symbols : ℕ) (g : List ℕ) → goal_verdict t symbols g ≡ Ok tt → every (GoodGoalFact t symbols) (goal_of g)
every-goal-fact t symbols g e =
    let w = whole-goal t symbols g e in
    every-by (GoodGoalFact t symbols) (goal_of g) (fact_at g 0) (λ i l.
    let m : i < length g / 18 = omega (arith, goal-length g) in
    rw (goal-at g i (fact_at g 0) m) (goal-fact-is t symbols g (18 * i) (w.good.declared i m) (w.later i m)))
