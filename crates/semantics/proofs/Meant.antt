-- The values of guards and the entries of bodies are those that document 01's sentences allow, and no others: `guard_value` of a list whose comparators are
-- 0 to 5, and `body_entries` of a body whose facts have four arguments, as in every rule of a good table. By the list's own recursion; each comparison
-- has both values or lacks one. So a guard with an undefined side before any comparison that is false is undefined, and never false.
use Prim.Native.Nat.{ℕ, suc, ◌≤◌}
use mathlib.Core.Path.{◌≡◌, refl, sym, ap, ap₂, ◌∙◌, subst}
use mathlib.Core.Bool.{Bool, true, false}
use Rattle.std.specs.Prelude.{Option, Some, None}
use mathlib.Core.List.{List, [], ◌∷◌}
use lib.IntN.{ℤ, pos}
use lib.ListN.{length}
use borrow.Author.Tests.{le-leb}
use Rattle.numbers.specs.Numbers.{holds, judge, compare}
use Rattle.model.specs.declared.Binding.{Binding}
use Rattle.model.specs.declared.Expression.{Expression}
use Rattle.model.specs.declared.Entry.{Entry}
use Rattle.model.specs.declared.RuleNumber.{RuleNumber}
use Rattle.std.specs.Prelude.{Ok}
use Rattle.model.specs.Reading.{read_of}
use Rattle.model.specs.Table.{Guard, BodyItem, body_fact, body_fail, heads, table_of, rule_at}
use Rattle.model.specs.Guards.{expression_value, comparison_value, guard_value}
use Rattle.model.specs.Steps.{waiting, fail_entry, cons_defined, argument_values, fact_of, waiting_if, item_entry, body_entries}
use Rattle.model.proofs.Every.{every, every-weaken}
use Rattle.model.proofs.Lists.{OptionIs, of-four}
use Rattle.model.proofs.Parts.{GoodGuard, GoodItem, rule-parts}
use Rattle.semantics.specs.Values.{Compared, GuardIs, empty, read_on, is_false, left_undefined, right_undefined}
use Rattle.semantics.specs.Values.{ValuesAre, BodyIs, nothing, waits, fails}
use Rattle.semantics.proofs.Match.{behind_first}

-- ---- guards

-- "Comparators 0..5"
abbrev pub Known : Guard → Type 0
Known g = g.comparator ≤ 5

-- a comparison with both values is told by its comparator
compared : (θ : Binding) (g : Guard) (answer : Bool) → Known g → Compared θ g answer → comparison_value θ g ≡ Some answer
unfolding comparison_value compare judge
compared θ g answer k c = rw (c.left, c.right, le-leb g.comparator 5 k, c.says)

left-lacks : (θ : Binding) (g : Guard) → expression_value θ g.left ≡ None → comparison_value θ g ≡ None
unfolding comparison_value compare
left-lacks θ g e = rw e

right-lacks : (θ : Binding) (g : Guard) → expression_value θ g.right ≡ None → comparison_value θ g ≡ None
unfolding comparison_value compare
right-lacks θ g e = rw e (go (expression_value θ g.left))
  where
    go : (v : Option ℤ) → compare g.comparator v None ≡ None
    go (Some a) = refl
    go None = refl

-- The value of a guard list is one that the sentences allow,
pub guard-is : (θ : Binding) (gs : List Guard) → every Known gs → GuardIs θ gs (guard_value θ gs)
unfolding guard_value comparison_value compare judge
guard-is θ [] u = empty
guard-is θ (g ∷ gs) u = go (expression_value θ g.left) refl (expression_value θ g.right) refl (guard-is θ gs u.1)
  where
    tells : (a b : ℤ) → expression_value θ g.left ≡ Some a → expression_value θ g.right ≡ Some b → GuardIs θ gs (guard_value θ gs)
        → (x : Bool) → holds g.comparator a b ≡ x → GuardIs θ (g ∷ gs) (behind_first θ gs (Some x))
    tells a b e d more true q = read_on (record { a = a; b = b; left = e; right = d; says = q }) more
    tells a b e d more false q = is_false (record { a = a; b = b; left = e; right = d; says = q })

    go : (l : Option ℤ) → expression_value θ g.left ≡ l → (r : Option ℤ) → expression_value θ g.right ≡ r → GuardIs θ gs (guard_value θ gs)
        → GuardIs θ (g ∷ gs) (behind_first θ gs (compare g.comparator l r))
    go (Some a) e (Some b) d more = rw (le-leb g.comparator 5 u.0) (tells a b e d more (holds g.comparator a b) refl)
    go (Some a) e None d more = right_undefined d
    go None e r d more = left_undefined e

guard-first : (θ : Binding) (g : Guard) (gs : List Guard) (v : Option Bool) → comparison_value θ g ≡ v → guard_value θ (g ∷ gs) ≡ behind_first θ gs v
unfolding guard_value
guard-first θ g gs v e = ap (behind_first θ gs) e

-- and the only one.
pub guard-only : (θ : Binding) (gs : List Guard) (v : Option Bool) → every Known gs → GuardIs θ gs v → guard_value θ gs ≡ v
unfolding guard_value
guard-only θ gs v u empty = refl
guard-only θ gs v u (read_on {g = g} {gs = rest} c more) =
    guard-first θ g rest (Some true) (compared θ g true u.0 c) ∙ guard-only θ rest v u.1 more
guard-only θ gs v u (is_false {g = g} {gs = rest} c) = guard-first θ g rest (Some false) (compared θ g false u.0 c)
guard-only θ gs v u (left_undefined {g = g} {gs = rest} e) = guard-first θ g rest None (left-lacks θ g e)
guard-only θ gs v u (right_undefined {g = g} {gs = rest} e) = guard-first θ g rest None (right-lacks θ g e)

-- ---- bodies

values-are : (θ : Binding) (es : List Expression) (zs : List ℤ) → ValuesAre θ es zs → argument_values θ es ≡ Some zs
unfolding argument_values
values-are θ [] [] u = refl
values-are θ [] (z ∷ zs) u = absurd u
values-are θ (e ∷ es) [] u = absurd u
values-are θ (e ∷ es) (z ∷ zs) u = ap₂ cons_defined u.0 (values-are θ es zs u.1)

-- What the sentences allow as a body's entries is what the definition gives, so that it is one alone;
pub body-only : (θ : Binding) (is : List BodyItem) (C : List Entry) → BodyIs θ is C → body_entries θ is ≡ Some C
unfolding body_entries item_entry
body-only θ is C nothing = refl
body-only θ is C (waits {es = es} {is = rest} {C = more} f l u v) =
    ap₂ (λ (o : Option (List ℤ)) (p : Option (List Entry)). cons_defined (waiting_if f.symbol o) p) (values-are θ es f.arguments u) (body-only θ rest more v)
    ∙ ap (λ (zs : List ℤ). Some (waiting (record { symbol = f.symbol; arguments = zs }) ∷ more)) (of-four f.arguments (pos 0) l)
body-only θ is C (fails {is = rest} {C = more} v) = ap (cons_defined (Some fail_entry)) (body-only θ rest more v)

-- "body fact: symbol, four expressions"
abbrev pub Four : BodyItem → Type 0
Four (body_fact s es) = length es ≡ 4
Four body_fail = Unit {0}

-- values for as many expressions
record Valued (θ : Binding) (es : List Expression) (zs : List ℤ) : Type 0 where
  each : ValuesAre θ es zs
  long : length zs ≡ length es

argument-values : (θ : Binding) (es : List Expression) → OptionIs (Valued θ es) (argument_values θ es)
unfolding argument_values
argument-values θ [] = record { each = tt; long = refl }
argument-values θ (e ∷ es) = go (expression_value θ e) refl (argument_values θ es) (argument-values θ es)
  where
    go : (v : Option ℤ) → expression_value θ e ≡ v → (o : Option (List ℤ)) → OptionIs (Valued θ es) o → OptionIs (Valued θ (e ∷ es)) (cons_defined v o)
    go None q o u = tt
    go (Some z) q None u = tt
    go (Some z) q (Some zs) u = record { each = (q, u.each); long = ap suc u.long }

-- and what it gives is allowed.
pub body-is : (θ : Binding) (is : List BodyItem) → every Four is → OptionIs (BodyIs θ is) (body_entries θ is)
unfolding body_entries item_entry
body-is θ [] u = nothing
body-is θ (body_fact s es ∷ is) u = go (argument_values θ es) (argument-values θ es) (body_entries θ is) (body-is θ is u.1)
  where
    go : (o : Option (List ℤ)) → OptionIs (Valued θ es) o → (p : Option (List Entry)) → OptionIs (BodyIs θ is) p
        → OptionIs (BodyIs θ (body_fact s es ∷ is)) (cons_defined (waiting_if s o) p)
    go None v p w = tt
    go (Some zs) v None w = tt
    go (Some zs) v (Some C) w =
        waits (fact_of s zs) refl (subst (ValuesAre θ es) (sym (of-four zs (pos 0) (v.long ∙ u.0))) v.each) w
body-is θ (body_fail ∷ is) u = go (body_entries θ is) (body-is θ is u.1)
  where
    go : (p : Option (List Entry)) → OptionIs (BodyIs θ is) p → OptionIs (BodyIs θ (body_fail ∷ is)) (cons_defined (Some fail_entry) p)
    go None w = tt
    go (Some C) w = fails w

-- ---- of a good table

module _ (t : List ℕ) (good : (read_of t).verdict ≡ Ok tt) (n : RuleNumber) where
  known : every Known (rule_at (table_of t) n).guards
  known =
      every-weaken (GoodGuard (heads (rule_at (table_of t) n))) Known (λ g q. q.comparator) (rule_at (table_of t) n).guards (rule-parts t good n).each_guard

  pub good-guard-is : (θ : Binding) → GuardIs θ (rule_at (table_of t) n).guards (guard_value θ (rule_at (table_of t) n).guards)
  good-guard-is θ = guard-is θ (rule_at (table_of t) n).guards known

  pub good-guard-only : (θ : Binding) (v : Option Bool) → GuardIs θ (rule_at (table_of t) n).guards v → guard_value θ (rule_at (table_of t) n).guards ≡ v
  good-guard-only θ v = guard-only θ (rule_at (table_of t) n).guards v known

  four : every Four (rule_at (table_of t) n).body
  four =
      every-weaken (GoodItem t (table_of t).symbols (heads (rule_at (table_of t) n))) Four item (rule_at (table_of t) n).body (rule-parts t good n).each_item
    where
      item : (i : BodyItem) → GoodItem t (table_of t).symbols (heads (rule_at (table_of t) n)) i → Four i
      item (body_fact s es) q = q.four
      item body_fail q = tt

  -- where a body has entries, they are those that the sentences allow; where it has none, they allow none
  pub good-body-is : (θ : Binding) (C : List Entry) → body_entries θ (rule_at (table_of t) n).body ≡ Some C → BodyIs θ (rule_at (table_of t) n).body C
  good-body-is θ C e = subst (OptionIs (BodyIs θ (rule_at (table_of t) n).body)) e (body-is θ (rule_at (table_of t) n).body four)

  pub good-body-none : (θ : Binding) → body_entries θ (rule_at (table_of t) n).body ≡ None → (C : List Entry) → BodyIs θ (rule_at (table_of t) n).body C → ⊥
  good-body-none θ e C b =
      let d : None ≡ Some C = sym e ∙ body-only θ (rule_at (table_of t) n).body C b in
      cc
