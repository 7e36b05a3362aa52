-- Numbers that stay within 32 bits: what a head's match binds comes from facts, and what an expression gives is tested or comes from a slot.
-- From bytes, each word is below 2 ^ 32, so that each constant and each goal argument lies in the range.
use Prim.Native.Nat.{ℕ, zero, suc, ◌+◌, ◌-◌, ◌<◌}
use native.Mathlib.Omega.{arith}
use mathlib.Core.Path.{◌≡◌, refl, subst}
use mathlib.Core.Bool.{Bool, true, false, cond}
use Rattle.std.specs.Prelude.{Option, Some, None}
use mathlib.Core.List.{List, [], ◌∷◌}
use lib.IntN.{ℤ, pos, negsuc, ◌-ℤ◌}
use lib.Dec.{ltb, eqb, le→leb}
use lib.ListN.{length, get_or, take}
use borrow.Author.Tests.{ltb-true, ltb-false}
use Rattle.numbers.specs.Numbers.{equal, evaluate}
use Rattle.numbers.proofs.Laws.{InRange, Ranged, ranged-number, ranged-undefined, evaluate-ranged}
use Rattle.model.specs.declared.FactId.{FactId}
use Rattle.model.specs.declared.Symbol.{Symbol}
use Rattle.model.specs.declared.Fact.{Fact}
use Rattle.model.specs.declared.Stored.{Stored}
use Rattle.model.specs.declared.Binding.{Binding}
use Rattle.model.specs.declared.Slot.{Slot}
use Rattle.model.specs.declared.Slot.TheVariants.{Unused, Constant, Variable, Bad}
use Rattle.model.specs.declared.Expression.{Expression}
use Rattle.model.specs.declared.HeadPlace.{HeadPlace}
use Rattle.model.specs.declared.RuleShape.{RuleShape}
use Rattle.model.specs.Slots.{slot_by, slot_at, expression_at}
use Rattle.model.specs.Table.{Head, Rule, Table, BodyItem, body_fact, body_fail, heads, same_symbol, body_fact_at, is_fact, item_at, behind_item}
use Rattle.model.specs.Table.{items_from, items_start, rule_of, table_by, table_of}
use Rattle.model.specs.Reading.{read_of}
use Rattle.model.specs.Goal.{fact_at, facts_from, goal_of}
use Rattle.model.specs.Guards.{unbound, variable_value, slot_value, expression_value}
use Rattle.model.specs.Matching.{bound_if, match_value, with_variable, match_variable, match_slot, and_slot, match_slots, arguments, match_head}
use Rattle.model.specs.declared.Fired.{Fired}
use Rattle.model.specs.Search.{no_head, first_instance}
use Rattle.model.specs.Steps.{cons_defined, argument_values, fact_of}
use Rattle.model.proofs.Every.{every, every-set, every-map}
use Rattle.model.proofs.Lists.{every-get_d, every-mem, every-replicate, OptionIs}
use Rattle.model.proofs.Sound.{FoundIs, first-is}
use Rattle.wire.specs.Wire.{u32_at, signed_of, i32_at}

zero-in-range : InRange (pos 0)
zero-in-range = record { low = record { le = tt }; high = record { le = tt } }

-- ---- facts, slots, expressions and tables whose numbers lie in the range

pub record FactRanged (f : Fact) : Type 0 where
  pub four : length f.arguments ≡ 4
  pub each : every InRange (arguments f)

abbrev pub SlotRanged : Slot → Type 0
SlotRanged Unused = Unit {0}
SlotRanged (Constant z) = InRange z
SlotRanged (Variable v) = Unit {0}
SlotRanged Bad = Unit {0}

pub record ExpressionRanged (e : Expression) : Type 0 where
  pub left : SlotRanged e.left
  pub right : SlotRanged e.right

abbrev pub ItemRanged : BodyItem → Type 0
ItemRanged (body_fact s es) = every ExpressionRanged es
ItemRanged body_fail = Unit {0}

abbrev pub TableRanged : Table → Type 0
TableRanged t = every (λ (r : Rule). every ItemRanged r.body) t.rules

-- ---- a binding that comes from such facts

pub record BindingRanged (b : Binding) : Type 0 where
  pub each : every Ranged b.values

bound-ranged : (x : Bool) (b : Binding) → BindingRanged b → OptionIs BindingRanged (bound_if x b)
bound-ranged true b k = k
bound-ranged false b k = tt

variable-ranged : (b : Binding) (v : ℕ) (z : ℤ) → BindingRanged b → InRange z → OptionIs BindingRanged (match_variable b v z)
unfolding match_variable with_variable
variable-ranged b v z k r = go (ltb v 16) (get_or b.values v None)
  where
    go : (y : Bool) (o : Option ℤ) → OptionIs BindingRanged (cond y (match_value o b v z) None)
    go true (Some x) = bound-ranged (equal x z) b k
    go true None = record { each = every-set Ranged b.values v (Some z) k.each (ranged-number r) }
    go false o = tt

slot-ranged : (s : Slot) (z : ℤ) (o : Option Binding) → InRange z → OptionIs BindingRanged o → OptionIs BindingRanged (and_slot s z o)
unfolding and_slot match_slot
slot-ranged s z None r k = tt
slot-ranged Unused z (Some b) r k = k
slot-ranged (Constant c) z (Some b) r k = bound-ranged (equal c z) b k
slot-ranged (Variable v) z (Some b) r k = variable-ranged b v z k r
slot-ranged Bad z (Some b) r k = tt

slots-ranged : (ss : List Slot) (zs : List ℤ) (o : Option Binding) → every InRange zs → OptionIs BindingRanged o → OptionIs BindingRanged (match_slots ss zs o)
unfolding match_slots
slots-ranged [] zs o r k = k
slots-ranged (s ∷ ss) [] o r k = k
slots-ranged (s ∷ ss) (z ∷ zs) o r k = slots-ranged ss zs (and_slot s z o) r.1 (slot-ranged s z o r.0 k)

head-ranged : (h : Head) (f : Fact) (b : Binding) → FactRanged f → BindingRanged b → OptionIs BindingRanged (match_head h f b)
unfolding match_head
head-ranged h f b r k = go (same_symbol h.symbol f.symbol)
  where
    go : (x : Bool) → OptionIs BindingRanged (cond x (match_slots h.slots (arguments f) (Some b)) None)
    go true = slots-ranged h.slots (arguments f) (Some b) r.each k
    go false = tt

-- an outcome that is some value has its property
some-is : {A : Type 0} (P : A → Type 0) (o : Option A) (x : A) → o ≡ Some x → OptionIs P o → P x
some-is P o x e u = subst (OptionIs P) e u

pub found-ranged : (store : List Stored) (history : List Fired) (p : HeadPlace) (r : Rule) (active : FactId)
    → every (λ (s : Stored). FactRanged s.fact) store
    → FoundIs (λ chosen b. BindingRanged b) (first_instance store history p r active)
found-ranged store history p r active u =
    first-is store history p r active (λ chosen b. BindingRanged b) (λ hs chosen b. BindingRanged b)
    (λ chosen b k fresh guard. k)
    (λ h hs chosen b q k. k)
    (λ h hs chosen b s c off m k. some-is BindingRanged (match_head h s.fact b) c m.matches
    (head-ranged h s.fact b (every-mem (λ (s : Stored). FactRanged s.fact) store u s m.stored) k))
    (λ f b m e. some-is BindingRanged (match_head (get_or (heads r) p.head no_head) f unbound) b e
    (head-ranged (get_or (heads r) p.head no_head) f unbound (every-mem (λ (s : Stored). FactRanged s.fact) store u (record { id = active; fact = f }) m)
    (record { each = every-replicate Ranged 16 None ranged-undefined })))

-- ---- what a body's arguments come to

value-ranged : (b : Binding) (s : Slot) → BindingRanged b → SlotRanged s → Ranged (slot_value b s)
unfolding slot_value variable_value
value-ranged b Unused k r = ranged-number zero-in-range
value-ranged b (Constant z) k r = ranged-number r
value-ranged b (Variable v) k r = go (ltb v 16)
  where
    go : (y : Bool) → Ranged (cond y (get_or b.values v None) None)
    go true = every-get_d Ranged b.values v None k.each ranged-undefined
    go false = ranged-undefined
value-ranged b Bad k r = ranged-undefined

pub arguments-ranged : (b : Binding) (es : List Expression) → BindingRanged b → every ExpressionRanged es → OptionIs (every InRange) (argument_values b es)
unfolding argument_values expression_value
arguments-ranged b [] k r = tt
arguments-ranged b (e ∷ es) k r =
    go (evaluate e.operation (slot_value b e.left) (slot_value b e.right)) (argument_values b es)
    (evaluate-ranged e.operation (slot_value b e.left) (slot_value b e.right) (value-ranged b e.left k r.0.left)) (arguments-ranged b es k r.1)
  where
    go : (v : Option ℤ) (o : Option (List ℤ)) → Ranged v → OptionIs (every InRange) o → OptionIs (every InRange) (cons_defined v o)
    go None o q u = tt
    go (Some z) None q u = tt
    go (Some z) (Some zs) q u = (q.number z refl, u)

pub fact-ranged : (s : Symbol) (zs : List ℤ) → every InRange zs → FactRanged (fact_of s zs)
fact-ranged s zs u = record { four = refl; each = (at 0, (at 1, (at 2, (at 3, tt)))) }
  where
    at : (i : ℕ) → InRange (get_or zs i (pos 0))
    at i = every-get_d InRange zs i (pos 0) u zero-in-range

-- ---- from bytes

abbrev pub AreBytes : List ℕ → Type 0
AreBytes = every (λ (b : ℕ). b < 256)

word-small : (t : List ℕ) → AreBytes t → (p : ℕ) → u32_at t p < 4294967296
unfolding u32_at
word-small t u p = omega (arith, at p, at (p + 1), at (p + 2), at (p + 3))
  where
    at : (i : ℕ) → get_or t i 0 < 256
    at i = every-get_d (λ (b : ℕ). b < 256) t i 0 u (omega arith)

signed-in-range : (n : ℕ) → n < 4294967296 → InRange (signed_of n)
unfolding signed_of
signed-in-range n h = go (ltb n 2147483648) refl
  where
    go : (x : Bool) → ltb n 2147483648 ≡ x → InRange (cond x (pos n) (pos n -ℤ pos 4294967296))
    go true q = record { low = record { le = tt }; high = record { le = le→leb n 2147483647 (omega (arith, ltb-true n 2147483648 q)) } }
    go false q = below (ltb n 4294967296) refl
      where
        below : (y : Bool) → ltb n 4294967296 ≡ y → InRange (cond y (negsuc (4294967296 - suc n)) (pos (n - 4294967296)))
        below true e = record {
          low = record { le = le→leb (4294967296 - suc n) 2147483647 (omega (arith, ltb-false n 2147483648 q)) };
          high = record { le = tt };
        }
        below false e = absurd (omega (arith, ltb-false n 4294967296 e))

word-in-range : (t : List ℕ) → AreBytes t → (p : ℕ) → InRange (i32_at t p)
unfolding i32_at
word-in-range t u p = signed-in-range (u32_at t p) (word-small t u p)

slot_at-ranged : (t : List ℕ) → AreBytes t → (p : ℕ) → SlotRanged (slot_at t p)
unfolding slot_at slot_by
slot_at-ranged t u p = go (eqb (get_or t p 0) 0) (eqb (u32_at t (p + 1)) 0) (eqb (get_or t p 0) 1) (eqb (get_or t p 0) 2) (ltb (u32_at t (p + 1)) 16)
  where
    go : (a b c d e : Bool) → SlotRanged (cond a (cond b Unused Bad)
        (cond c (Constant (signed_of (u32_at t (p + 1)))) (cond d (cond e (Variable (u32_at t (p + 1))) Bad) Bad)))
    go true true c d e = tt
    go true false c d e = tt
    go false b true d e = signed-in-range (u32_at t (p + 1)) (word-small t u (p + 1))
    go false b false true true = tt
    go false b false true false = tt
    go false b false false e = tt

expression_at-ranged : (t : List ℕ) → AreBytes t → (p : ℕ) → ExpressionRanged (expression_at t p)
unfolding expression_at
expression_at-ranged t u p = record { left = slot_at-ranged t u (p + 1); right = slot_at-ranged t u (p + 6) }

item_at-ranged : (t : List ℕ) → AreBytes t → (p : ℕ) → ItemRanged (item_at t p)
unfolding item_at body_fact_at
item_at-ranged t u p = go (is_fact t p)
  where
    at : (q : ℕ) → ExpressionRanged (expression_at t q)
    at q = expression_at-ranged t u q

    go : (x : Bool) → ItemRanged (cond x (body_fact_at t p) body_fail)
    go true = (at (p + 2), (at (p + 13), (at (p + 24), (at (p + 35), tt))))
    go false = tt

items-ranged : (t : List ℕ) → AreBytes t → (p n : ℕ) → every ItemRanged (items_from t p n)
unfolding items_from
items-ranged t u p zero = tt
items-ranged t u p (suc n) = (item_at-ranged t u p, items-ranged t u (behind_item t p) n)

every-each : {A : Type 0} (P : A → Type 0) → ((x : A) → P x) → (xs : List A) → every P xs
every-each P h [] = tt
every-each P h (x ∷ xs) = (h x, every-each P h xs)

pub table-ranged : (t : List ℕ) → AreBytes t → TableRanged (table_of t)
unfolding table_of table_by rule_of
table-ranged t u =
    every-map (λ (r : Rule). every ItemRanged r.body) (rule_of t) (take (read_of t).rules (read_of t).shapes)
    (every-each (λ (r : RuleShape). every ItemRanged (rule_of t r).body) (λ r. items-ranged t u (items_start r) r.items)
    (take (read_of t).rules (read_of t).shapes))

facts-ranged : (g : List ℕ) → AreBytes g → (p n : ℕ) → every FactRanged (facts_from g p n)
unfolding facts_from fact_at
facts-ranged g u p zero = tt
facts-ranged g u p (suc n) = (record { four = refl; each = (at (p + 2), (at (p + 6), (at (p + 10), (at (p + 14), tt)))) }, facts-ranged g u (p + 18) n)
  where
    at : (q : ℕ) → InRange (i32_at g q)
    at q = word-in-range g u q

pub goal-ranged : (g : List ℕ) → AreBytes g → every FactRanged (goal_of g)
unfolding goal_of
goal-ranged g u = facts-ranged g u 0 _
