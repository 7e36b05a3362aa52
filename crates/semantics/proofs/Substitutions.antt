-- Other substitutions than the least. Wherever any substitution makes the heads equal to the facts, the least one is there, and it is part of the
-- others; so a guard all of whose variables stand in heads, as in a good table, has the same value under each of them. An instance could as well be
-- said with any substitution.
use Prim.Native.Nat.{ℕ}
use mathlib.Core.Bool.{true}
use mathlib.Core.Path.{◌≡◌, refl, sym, ◌∙◌, subst}
use Rattle.std.specs.Prelude.{Option, Some, None, slice_get}
use mathlib.Core.Logic.{◌⊎◌, inl, inr}
use mathlib.Core.List.Memᴰ
use mathlib.Core.List.{List, [], ◌∷◌, Memᴰ}
use lib.IntN.{ℤ}
use lib.ListN.{length, take}
use Rattle.model.specs.declared.FactId.{FactId}
use Rattle.model.specs.declared.Stored.{Stored}
use Rattle.model.specs.declared.Binding.{Binding}
use Rattle.model.specs.declared.HeadPlace.{HeadPlace}
use Rattle.model.specs.declared.Slot.{Slot}
use Rattle.model.specs.declared.Slot.TheVariants.{Unused, Constant, Variable, Bad}
use Rattle.model.specs.declared.Expression.{Expression}
use Rattle.model.specs.Table.{Head, Guard, Rule, Table, heads, rule_at}
use Rattle.model.specs.Guards.{unbound, variable_value, slot_value, expression_value, comparison_value, guard_value}
use Rattle.model.specs.Matching.{arguments, match_head}
use Rattle.model.proofs.Every.{every, every-weaken}
use Rattle.model.proofs.Sound.{Distinct, ids_of}
use Rattle.model.proofs.Parts.{Stands, SlotIn, ExpressionIn, GuardIn, Covered}
use Rattle.semantics.specs.Instances.{PartOf, SlotIs, SlotsAre, HeadIs, HeadsAre, Matching}
use Rattle.semantics.specs.Refined.{Enabled}
use Rattle.semantics.proofs.Match.{Sized, part-refl, part-trans, unbound-part, Extends, Matched, head-later, head-matched, guards-by}

-- ---- the least one

heads-least : (hs : List Head) (ss : List Stored) (b η : Binding) → Sized b → PartOf b η → HeadsAre η hs ss
    → (c : Binding) × Extends (λ θ. HeadsAre θ hs ss) b c
heads-least [] [] b η k p m = (b, record { sized = k; part = part-refl b; fits = tt; least = λ θ q n. q })
heads-least [] (s ∷ ss) b η k p m = absurd m
heads-least (h ∷ hs) [] b η k p m = absurd m
heads-least (h ∷ hs) (s ∷ ss) b η k p m = go (match_head h s.fact b) (head-matched h s.fact b k) (λ c j q. heads-least hs ss c η j q m.1)
  where
    go : (o : Option Binding) → Matched (λ θ. HeadIs θ h s.fact) b o
        → ((c : Binding) → Sized c → PartOf c η → (d : Binding) × Extends (λ θ. HeadsAre θ hs ss) c d)
        → (d : Binding) × Extends (λ θ. HeadsAre θ (h ∷ hs) (s ∷ ss)) b d
    go None u ih = absurd (u η p m.0)
    go (Some c) u ih =
        let d = ih c u.sized (u.least η p m.0) in (
          d.0,
          record {
            sized = d.1.sized;
            part = part-trans b c d.0 u.part d.1.part;
            fits = (head-later h s.fact c d.0 d.1.part u.fits, d.1.fits);
            least = λ θ q n. d.1.least θ (u.least θ q n.0) n.1;
          },
        )

pub least-matching : (store : List Stored) (p : HeadPlace) (r : Rule) (i : FactId) (facts : List Stored) (η : Binding)
    → every (λ s. Memᴰ s store) facts → Distinct facts
    → HeadsAre η (heads r) facts → slice_get (ids_of facts) p.head ≡ Some i → (θ : Binding) × Matching store p r i facts θ
least-matching store p r i facts η s d m h =
    let c = heads-least (heads r) facts unbound η (record { values = refl }) (unbound-part η) m in
    (c.0, record { stored = s; distinct = d; matched = c.1.fits; least = λ θ n. c.1.least θ (unbound-part θ) n; here = h })

-- ---- a variable that stands in a head has a value

slots-value : (θ : Binding) (v : ℕ) (ss : List Slot) (zs : List ℤ) → SlotsAre θ ss zs → Memᴰ (Variable v) (take (length zs) ss)
    → (z : ℤ) × (variable_value θ v ≡ Some z)
slots-value θ v [] [] u m = absurd (Memᴰ.not-nil m)
slots-value θ v [] (z ∷ zs) u m = absurd (Memᴰ.not-nil m)
slots-value θ v (s ∷ ss) [] u m = absurd (Memᴰ.not-nil m)
slots-value θ v (s ∷ ss) (z ∷ zs) u m = go (Memᴰ.cases_cons m) (λ m. slots-value θ v ss zs u.1 m)
  where
    go : (Variable v ≡ s) ⊎ Memᴰ (Variable v) (take (length zs) ss)
        → (Memᴰ (Variable v) (take (length zs) ss) → (y : ℤ) × (variable_value θ v ≡ Some y)) → (y : ℤ) × (variable_value θ v ≡ Some y)
    go (inl e) ih = (z, subst (λ (x : Slot). SlotIs θ x z) (sym e) u.0)
    go (inr m) ih = ih m

pub stands-value : (θ : Binding) (v : ℕ) (hs : List Head) (ss : List Stored) → HeadsAre θ hs ss → Stands hs v → (z : ℤ) × (variable_value θ v ≡ Some z)
stands-value θ v [] ss u m = absurd (Memᴰ.not-nil m.1)
stands-value θ v (h ∷ hs) [] u m = absurd u
stands-value θ v (h ∷ hs) (s ∷ ss) u m = go (Memᴰ.cases_cons m.1) (λ n. stands-value θ v hs ss u.1 (m.0, n, m.2))
  where
    go : (m.0 ≡ h) ⊎ Memᴰ m.0 hs → (Memᴰ m.0 hs → (z : ℤ) × (variable_value θ v ≡ Some z)) → (z : ℤ) × (variable_value θ v ≡ Some z)
    go (inl e) ih = slots-value θ v h.slots (arguments s.fact) u.0.slots (subst (λ (x : Head). Memᴰ (Variable v) (take 4 x.slots)) e m.2)
    go (inr n) ih = ih n

-- ---- a guard whose variables stand in heads

module _ (hs : List Head) (ss : List Stored) (θ η : Binding) (m : HeadsAre θ hs ss) (part : PartOf θ η) where
  slot-any : (s : Slot) → SlotIn hs s → slot_value η s ≡ slot_value θ s
  unfolding slot_value
  slot-any Unused u = refl
  slot-any (Constant z) u = refl
  slot-any (Variable v) u = let e = stands-value θ v hs ss m u in part v e.0 e.1 ∙ sym e.1
  slot-any Bad u = refl

  expression-any : (e : Expression) → ExpressionIn hs e → expression_value η e ≡ expression_value θ e
  unfolding expression_value
  expression-any e u = rw (slot-any e.left u.left, slot-any e.right u.right)

  comparison-any : (g : Guard) → GuardIn hs g → comparison_value η g ≡ comparison_value θ g
  unfolding comparison_value
  comparison-any g u = rw (expression-any g.left u.left, expression-any g.right u.right)

  guards-any : (gs : List Guard) → every (GuardIn hs) gs → guard_value η gs ≡ guard_value θ gs
  guards-any gs u = guards-by η θ gs (every-weaken (GuardIn hs) (λ (g : Guard). comparison_value η g ≡ comparison_value θ g) comparison-any gs u)

-- facts that any substitution makes equal to the heads, with a guard that is true under it, are an instance with a true guard
pub enabled-by-any : (t : Table) (S : List Stored) (p : HeadPlace) (i : FactId) (facts : List Stored) (η : Binding) → Covered (rule_at t p.rule)
    → every (λ s. Memᴰ s S) facts → Distinct facts → HeadsAre η (heads (rule_at t p.rule)) facts → slice_get (ids_of facts) p.head ≡ Some i
    → guard_value η (rule_at t p.rule).guards ≡ Some true → (θ : Binding) × Enabled t S p i facts θ
enabled-by-any t S p i facts η c s d m h g =
    let r : Rule = rule_at t p.rule in
    let l = least-matching S p r i facts η s d m h in
    (l.0, record { matching = l.1; guard = sym (guards-any (heads r) facts l.0 η l.1.matched (l.1.least η m) r.guards c) ∙ g })
