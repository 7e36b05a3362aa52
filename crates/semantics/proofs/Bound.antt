-- From bytes to bound variables: under the substitution of a complete match, each slot of the rule's guards and body is a number, since each of their
-- variables stands in a head (Parts). So an expression has no value only for a zero divisor or a result out of range, a guard is undefined only if its
-- first comparison that is not true has such a side, and a body has no entries only if some argument of it is such an expression.
-- Facts that any substitution makes equal to the heads are an instance: `enabled-by-any` without its premise.
use Prim.Native.Nat.{ℕ, zero, suc, ◌≤◌, ◌<◌}
use native.Mathlib.Omega.{arith}
use native.Mathlib.Nat.{eq-zero-or-pos}
use mathlib.Core.Path.{◌≡◌, refl}
use mathlib.Core.Bool.{Bool, true, false, cond}
use Rattle.std.specs.Prelude.{Option, Some, None, slice_get}
use mathlib.Core.Logic.{◌⊎◌, inl, inr, ◌↔◌}
use mathlib.Core.List.{List, [], ◌∷◌, Memᴰ}
use lib.IntN.{ℤ, pos, ◌+ℤ◌, ◌-ℤ◌, ◌*ℤ◌}
use lib.Dec.{ltb}
use lib.ListN.{length, get_or}
use borrow.Author.Tests.{le-leb, ltb-true, ltb-false}
use Rattle.numbers.specs.Numbers.{in_range, exact, equal, unless_zero, floor_z, mod_z, quotient_of, remainder_of, operate}
use Rattle.numbers.specs.Numbers.{on_numbers}
use Rattle.numbers.specs.Numbers.{evaluate, judge, compare}
use Rattle.numbers.proofs.Laws.{equal-same, equal-is}
use Rattle.model.specs.declared.FactId.{FactId}
use Rattle.model.specs.declared.Symbol.{Symbol}
use Rattle.model.specs.declared.Stored.{Stored}
use Rattle.model.specs.declared.Entry.{Entry}
use Rattle.model.specs.declared.Binding.{Binding}
use Rattle.model.specs.declared.HeadPlace.{HeadPlace}
use Rattle.model.specs.declared.Slot.{Slot}
use Rattle.model.specs.declared.Slot.TheVariants.{Unused, Constant, Variable, Bad}
use Rattle.model.specs.declared.Expression.{Expression}
use Rattle.std.specs.Prelude.{Ok}
use Rattle.model.specs.Fields.{arity_at}
use Rattle.model.specs.Reading.{read_of}
use Rattle.model.specs.Table.{Head, Guard, BodyItem, body_fact, body_fail, Rule, heads, table_of, rule_at}
use Rattle.model.specs.Guards.{slot_value, expression_value, comparison_value, guard_value}
use Rattle.model.specs.Steps.{cons_defined, argument_values, waiting_if, item_entry, body_entries}
use Rattle.model.proofs.Every.{every, every-by, every-both, every-weaken}
use Rattle.model.proofs.Lists.{every-mem}
use Rattle.model.proofs.Sound.{Distinct, ids_of}
use Rattle.model.proofs.Parts.{UsedSlot, SlotIn, ExpressionIn, GoodExpression, no_expression, GoodGuard, GoodFact, GoodItem, OfGuard}
use Rattle.model.proofs.Parts.{OfItem, EachExpression, each-weaken, rule-parts, variables-stand}
use Rattle.semantics.specs.Instances.{HeadsAre, Matching}
use Rattle.semantics.specs.Values.{SlotBound, ExpressionBound, ResultIs, sum, difference, product, quotient}
use Rattle.semantics.specs.Values.{remainder, NoValue, zero_divisor, out_of_range, Lacks, GuardLacks, BodyLacks}
use Rattle.semantics.specs.Refined.{Enabled}
use Rattle.semantics.proofs.Match.{behind_first}
use Rattle.semantics.proofs.Substitutions.{stands-value, enabled-by-any}

-- ---- each slot is a number

-- and the operation is one
record Ready (θ : Binding) (e : Expression) : Type 0 where
  operation : e.operation ≤ 5
  bound : ExpressionBound θ e

unused-bound : (θ : Binding) (s : Slot) → s ≡ Unused → SlotBound θ s
unfolding slot_value
unused-bound θ s e = rw e (record { number = pos 0; value = refl })

none-ready : (θ : Binding) → Ready θ no_expression
none-ready θ = record {
  operation = omega arith;
  bound = record { left = unused-bound θ Unused refl; right = unused-bound θ Unused refl };
}

module _ (θ : Binding) (hs : List Head) (ss : List Stored) (m : HeadsAre θ hs ss) where
  used-bound : (s : Slot) → UsedSlot s → SlotIn hs s → SlotBound θ s
  unfolding slot_value
  used-bound Unused u i = absurd u
  used-bound (Constant z) u i = record { number = z; value = refl }
  used-bound (Variable v) u i = let z = stands-value θ v hs ss m i in record { number = z.0; value = z.1 }
  used-bound Bad u i = absurd u

  expression-ready : (e : Expression) → GoodExpression e → ExpressionIn hs e → Ready θ e
  expression-ready e g i = record {
    operation = g.operation;
    bound = record { left = used-bound e.left g.first i.left; right = second (eq-zero-or-pos e.operation) };
  }
    where
      second : (e.operation ≡ 0) ⊎ (0 < e.operation) → SlotBound θ e.right
      second (inl z) = unused-bound θ e.right (g.alone z)
      second (inr l) = used-bound e.right (g.second l) i.right

  module _ (t : List ℕ) (symbols : ℕ) where
    argument-ready : (s : Symbol) (es : List Expression) → GoodFact t symbols hs s es → every (Ready θ) es
    argument-ready s es g =
        every-weaken (λ (e : Expression). (GoodExpression e ⊎ (e ≡ no_expression)) × ExpressionIn hs e) (Ready θ) (λ e u. one e u.0 u.1) es
        (every-both (λ (e : Expression). GoodExpression e ⊎ (e ≡ no_expression)) (ExpressionIn hs) es
        (every-by (λ (e : Expression). GoodExpression e ⊎ (e ≡ no_expression)) es no_expression (λ i l. place i l (ltb i (arity_at t s.0)) refl)) g.bound)
      where
        place : (i : ℕ) → i < length es → (b : Bool) → ltb i (arity_at t s.0) ≡ b
            → GoodExpression (get_or es i no_expression) ⊎ (get_or es i no_expression ≡ no_expression)
        place i l true e = inl (g.used i (ltb-true i (arity_at t s.0) e))
        place i l false e = inr (g.unused i (ltb-false i (arity_at t s.0) e) (omega (arith, l, g.four)))

        one : (e : Expression) → GoodExpression e ⊎ (e ≡ no_expression) → ExpressionIn hs e → Ready θ e
        one e (inl u) i = expression-ready e u i
        one e (inr u) i = rw u (none-ready θ)

-- ---- an expression without a value: the operation on its two numbers has none

absent : {A B : Type 0} {x : A} → ◌≡◌ {A = Option A} (Some x) None → B
absent e = absurd cc

exact-lacks : (z : ℤ) → exact z ≡ None → in_range z ≡ false
unfolding exact
exact-lacks z = go (in_range z) refl
  where
    go : (b : Bool) → in_range z ≡ b → cond b (Some z) None ≡ None → in_range z ≡ false
    go true q e = absent e
    go false q e = q

-- a division: of a zero divisor, or its exact result does not fit
divided-lacks : (op : ℕ) (a b z : ℤ) → (op ≡ 4) ⊎ (op ≡ 5) → ((b ≡ pos 0 → ⊥) → ResultIs a b op z) → unless_zero b (exact z) ≡ None → NoValue op a b
unfolding unless_zero
divided-lacks op a b z is r = go (equal b (pos 0)) refl
  where
    apart : equal b (pos 0) ≡ false → b ≡ pos 0 → ⊥
    apart q e =
        let same : equal b (pos 0) ≡ true = rw e (equal-same (pos 0)) in
        cc

    go : (x : Bool) → equal b (pos 0) ≡ x → cond x None (exact z) ≡ None → NoValue op a b
    go true q e = zero_divisor is (equal-is b (pos 0) q)
    go false q e = out_of_range z (r (apart q)) (exact-lacks z e)

operation-lacks : (op : ℕ) (a b : ℤ) → op ≤ 5 → evaluate op (Some a) (Some b) ≡ None → NoValue op a b
unfolding evaluate on_numbers operate quotient_of remainder_of
operation-lacks zero a b l e = absent e
operation-lacks (suc zero) a b l e = out_of_range (a +ℤ b) sum (exact-lacks (a +ℤ b) e)
operation-lacks (suc (suc zero)) a b l e = out_of_range (a -ℤ b) difference (exact-lacks (a -ℤ b) e)
operation-lacks (suc (suc (suc zero))) a b l e = out_of_range (a *ℤ b) product (exact-lacks (a *ℤ b) e)
operation-lacks (suc (suc (suc (suc zero)))) a b l e = divided-lacks 4 a b (floor_z a b) (inl refl) quotient e
operation-lacks (suc (suc (suc (suc (suc zero))))) a b l e = divided-lacks 5 a b (mod_z a b) (inr refl) remainder e
operation-lacks (suc (suc (suc (suc (suc (suc n)))))) a b l e = absurd (omega arith)

expression-lacks : (θ : Binding) (e : Expression) → Ready θ e → expression_value θ e ≡ None → Lacks θ e
unfolding expression_value
expression-lacks θ e r u = record {
  a = r.bound.left.number;
  b = r.bound.right.number;
  left = r.bound.left.value;
  right = r.bound.right.value;
  cause = operation-lacks e.operation r.bound.left.number r.bound.right.number r.operation
      (rw (r.bound.left.value, r.bound.right.value) at u);
}

-- and back: such an expression has no value
exact-outside : (z : ℤ) → in_range z ≡ false → exact z ≡ None
unfolding exact
exact-outside z e = rw e

divided-outside : (b z : ℤ) → in_range z ≡ false → unless_zero b (exact z) ≡ None
unfolding unless_zero
divided-outside b z e = rw (exact-outside z e) (go (equal b (pos 0)))
  where
    go : (x : Bool) → cond {A = Option ℤ} x None None ≡ None
    go true = refl
    go false = refl

divided-zero : (b : ℤ) (v : Option ℤ) → b ≡ pos 0 → unless_zero b v ≡ None
unfolding unless_zero
divided-zero b v e = rw e

result-outside : (op : ℕ) (a b z : ℤ) → ResultIs a b op z → in_range z ≡ false → evaluate op (Some a) (Some b) ≡ None
unfolding evaluate on_numbers operate quotient_of remainder_of
result-outside op a b z sum e = exact-outside z e
result-outside op a b z difference e = exact-outside z e
result-outside op a b z product e = exact-outside z e
result-outside op a b z (quotient d) e = divided-outside b z e
result-outside op a b z (remainder d) e = divided-outside b z e

no-value : (op : ℕ) (a b : ℤ) → NoValue op a b → evaluate op (Some a) (Some b) ≡ None
unfolding evaluate on_numbers operate quotient_of remainder_of
no-value op a b (zero_divisor (inl e) z) = rw e (divided-zero b (exact (floor_z a b)) z)
no-value op a b (zero_divisor (inr e) z) = rw e (divided-zero b (exact (mod_z a b)) z)
no-value op a b (out_of_range z r e) = result-outside op a b z r e

pub lacks-value : (θ : Binding) (e : Expression) → Lacks θ e → expression_value θ e ≡ None
unfolding expression_value
lacks-value θ e l = rw (l.left, l.right) (no-value e.operation l.a l.b l.cause)

-- ---- a guard without a value

-- a comparator compares two numbers
undefined-side : (cmp : ℕ) (x y : Option ℤ) → cmp ≤ 5 → compare cmp x y ≡ None → (x ≡ None) ⊎ (y ≡ None)
unfolding compare judge
undefined-side cmp (Some a) (Some b) l e = absent (rw (le-leb cmp 5 l) at e)
undefined-side cmp (Some a) None l e = inr refl
undefined-side cmp None y l e = inl refl

comparison-lacks : (θ : Binding) (g : Guard) → g.comparator ≤ 5 → OfGuard (Ready θ) g → comparison_value θ g ≡ None → Lacks θ g.left ⊎ Lacks θ g.right
unfolding comparison_value
comparison-lacks θ g l r e = go (undefined-side g.comparator (expression_value θ g.left) (expression_value θ g.right) l e)
  where
    go : (expression_value θ g.left ≡ None) ⊎ (expression_value θ g.right ≡ None) → Lacks θ g.left ⊎ Lacks θ g.right
    go (inl u) = inl (expression-lacks θ g.left r.left u)
    go (inr u) = inr (expression-lacks θ g.right r.right u)

guards-lack : (θ : Binding) (gs : List Guard) → every (λ (g : Guard). g.comparator ≤ 5) gs → every (OfGuard (Ready θ)) gs
    → guard_value θ gs ≡ None → GuardLacks θ gs
unfolding guard_value
guards-lack θ [] l u e = absurd cc
guards-lack θ (g ∷ gs) l u e = go (comparison_value θ g) refl (guards-lack θ gs l.1 u.1) e
  where
    go : (x : Option Bool) → comparison_value θ g ≡ x → (guard_value θ gs ≡ None → GuardLacks θ gs)
        → behind_first θ gs x ≡ None → GuardLacks θ (g ∷ gs)
    go (Some true) q ih e =
        let r = ih e in
        record {
          before = g ∷ r.before;
          first = r.first;
          after = r.after;
          whole = rw r.whole;
          holds = (q, r.holds);
          side = r.side;
        }
    go (Some false) q ih e = absurd cc
    go None q ih e = record { before = []; first = g; after = gs; whole = refl; holds = tt; side = comparison-lacks θ g l.0 u.0 q }

-- ---- a body without entries

arguments-lack : (θ : Binding) (es : List Expression) → argument_values θ es ≡ None → (e : Expression) × Memᴰ e es × (expression_value θ e ≡ None)
unfolding argument_values
arguments-lack θ [] e = absent e
arguments-lack θ (x ∷ es) e = go (expression_value θ x) (argument_values θ es) refl (arguments-lack θ es) e
  where
    go : (v : Option ℤ) (vs : Option (List ℤ)) → expression_value θ x ≡ v
        → (vs ≡ None → (e : Expression) × Memᴰ e es × (expression_value θ e ≡ None)) → cons_defined v vs ≡ None
        → (e : Expression) × Memᴰ e (x ∷ es) × (expression_value θ e ≡ None)
    go None vs q ih e = (x, Memᴰ.head refl, q)
    go (Some v) None q ih e = let r = ih refl in (r.0, Memᴰ.tail r.1, r.2)
    go (Some v) (Some vs) q ih e = absent e

item-lacks : (θ : Binding) (i : BodyItem) (is : List BodyItem) → OfItem (Ready θ) i → item_entry θ i ≡ None → BodyLacks θ (i ∷ is)
unfolding item_entry
item-lacks θ (body_fact s es) is u = go (argument_values θ es) refl
  where
    go : (vs : Option (List ℤ)) → argument_values θ es ≡ vs → waiting_if s vs ≡ None → BodyLacks θ (body_fact s es ∷ is)
    go None q e =
        let r = arguments-lack θ es q in
        record {
          symbol = s;
          arguments = es;
          item = Memᴰ.head refl;
          argument = r.0;
          among = r.1;
          lacks = expression-lacks θ r.0 (every-mem (Ready θ) es u r.0 r.1) r.2;
        }
    go (Some vs) q e = absent e
item-lacks θ body_fail is u = λ e. absent e

body-lacks : (θ : Binding) (is : List BodyItem) → every (OfItem (Ready θ)) is → body_entries θ is ≡ None → BodyLacks θ is
unfolding body_entries
body-lacks θ [] u e = absent e
body-lacks θ (i ∷ is) u e = go (item_entry θ i) (body_entries θ is) refl (body-lacks θ is u.1) e
  where
    go : (x : Option Entry) (xs : Option (List Entry)) → item_entry θ i ≡ x → (xs ≡ None → BodyLacks θ is) → cons_defined x xs ≡ None → BodyLacks θ (i ∷ is)
    go None xs q ih e = item-lacks θ i is u.0 q
    go (Some x) None q ih e =
        let r = ih refl in
        record {
          symbol = r.symbol;
          arguments = r.arguments;
          item = Memᴰ.tail r.item;
          argument = r.argument;
          among = r.among;
          lacks = r.lacks;
        }
    go (Some x) (Some xs) q ih e = absent e

-- ---- from bytes

module _ (t : List ℕ) (good : (read_of t).verdict ≡ Ok tt) (p : HeadPlace) (facts : List Stored) (θ : Binding) where
  abbrev rule : Rule
  rule = rule_at (table_of t) p.rule

  module _ (m : HeadsAre θ (heads rule) facts) where
    each-ready : EachExpression (Ready θ) rule
    each-ready = record {
      guards = every-weaken (GoodGuard (heads rule)) (OfGuard (Ready θ))
          (λ g q. record {
            left = expression-ready θ (heads rule) facts m g.left q.left q.bound.left;
            right = expression-ready θ (heads rule) facts m g.right q.right q.bound.right;
          })
          rule.guards (rule-parts t good p.rule).each_guard;
      body = every-weaken (GoodItem t (table_of t).symbols (heads rule)) (OfItem (Ready θ)) item rule.body (rule-parts t good p.rule).each_item;
    }
      where
        item : (i : BodyItem) → GoodItem t (table_of t).symbols (heads rule) i → OfItem (Ready θ) i
        item (body_fact s es) q = argument-ready θ (heads rule) facts m t (table_of t).symbols s es q
        item body_fail q = tt

    -- wherever a substitution makes the heads equal to the facts, each slot of each expression of the guards and of the body is a number
    pub heads-bind : EachExpression (ExpressionBound θ) rule
    heads-bind = each-weaken (Ready θ) (ExpressionBound θ) (λ e r. r.bound) rule each-ready

  module _ (store : List Stored) (i : FactId) (m : Matching store p rule i facts θ) where
    -- every variable of a guard or of a body is bound in every complete match
    pub match-binds : EachExpression (ExpressionBound θ) rule
    match-binds = heads-bind m.matched

    -- an expression has no value exactly for one of the two causes
    pub match-causes : EachExpression (λ (e : Expression). (expression_value θ e ≡ None) ↔ Lacks θ e) rule
    match-causes =
        each-weaken (Ready θ) (λ (e : Expression). (expression_value θ e ≡ None) ↔ Lacks θ e)
        (λ e r. (expression-lacks θ e r, lacks-value θ e)) rule (each-ready m.matched)

    -- an undefined guard: the first comparison that is not true has a side without a value
    pub guard-cause : guard_value θ rule.guards ≡ None → GuardLacks θ rule.guards
    guard-cause e =
        guards-lack θ rule.guards
        (every-weaken (GoodGuard (heads rule)) (λ (g : Guard). g.comparator ≤ 5) (λ g q. q.comparator) rule.guards
        (rule-parts t good p.rule).each_guard)
        (each-ready m.matched).guards e

    -- a body without entries: an argument of one of its facts has no value
    pub body-cause : body_entries θ rule.body ≡ None → BodyLacks θ rule.body
    body-cause e = body-lacks θ rule.body (each-ready m.matched).body e

-- facts that any substitution makes equal to the heads, with a guard that is true under it, are an instance with a true guard
pub good-enabled-by-any : (t : List ℕ) → (read_of t).verdict ≡ Ok tt → (S : List Stored) (p : HeadPlace) (i : FactId) (facts : List Stored) (η : Binding)
    → every (λ s. Memᴰ s S) facts → Distinct facts → HeadsAre η (heads (rule_at (table_of t) p.rule)) facts
    → slice_get (ids_of facts) p.head ≡ Some i
    → guard_value η (rule_at (table_of t) p.rule).guards ≡ Some true → (θ : Binding) × Enabled (table_of t) S p i facts θ
good-enabled-by-any t good S p i facts η =
    enabled-by-any (table_of t) S p i facts η
    (variables-stand t (table_of t).symbols (rule_at (table_of t) p.rule) (rule-parts t good p.rule)).guards
