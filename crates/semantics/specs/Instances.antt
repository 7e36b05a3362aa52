-- An instance of a rule, said by what it is and not by how it is found: the conditions on θ and on the facts that Simplify and Propagate have in
-- common (document 004, appendix A, definition 2). Nothing here speaks of the search or of its order.
use Rattle.std.specs.Prelude.{ℕ, ◌<◌, ◌≡◌, ◌⊎◌, ℤ}
use Rattle.std.specs.Prelude.{Some, slice_get}
use mathlib.Core.List.{List, [], ◌∷◌, Memᴰ}
use Rattle.model.specs.declared.FactId.{FactId}
use Rattle.model.specs.declared.Fact.{Fact}
use Rattle.model.specs.declared.Stored.{Stored}
use Rattle.model.specs.declared.Binding.{Binding}
use Rattle.model.specs.declared.HeadPlace.{HeadPlace}
use Rattle.model.specs.declared.Slot.{Slot}
use Rattle.model.specs.declared.Slot.TheVariants.{Unused, Constant, Variable, Bad}
use Rattle.model.specs.Table.{Head, Rule, heads}
use Rattle.model.specs.Guards.{variable_value}
use Rattle.model.specs.Matching.{arguments}
use Rattle.model.specs.declared.Fired.{Fired}
use Rattle.model.proofs.Every.{every}
use Rattle.model.proofs.Sound.{Distinct, ids_of}

-- ---- a binding, read as a substitution: numbers for some of the variables 0..15

-- what θ says of a variable, η says too
abbrev pub PartOf : Binding → Binding → Type 0
PartOf θ η = (v : ℕ) (z : ℤ) → variable_value θ v ≡ Some z → variable_value η v ≡ Some z

-- a slot under θ is the number z; a place that is not used says nothing, and what no good table holds fits nothing
abbrev pub SlotIs : Binding → Slot → ℤ → Type 0
SlotIs θ Unused z = Unit {0}
SlotIs θ (Constant c) z = c ≡ z
SlotIs θ (Variable v) z = variable_value θ v ≡ Some z
SlotIs θ Bad z = ⊥

abbrev pub SlotsAre : Binding → List Slot → List ℤ → Type 0
SlotsAre θ [] zs = Unit {0}
SlotsAre θ (s ∷ ss) [] = Unit {0}
SlotsAre θ (s ∷ ss) (z ∷ zs) = SlotIs θ s z × SlotsAre θ ss zs

-- "c = θ(d_j)"
pub record HeadIs (θ : Binding) (h : Head) (f : Fact) : Type 0 where
  pub symbol : h.symbol ≡ f.symbol
  pub slots : SlotsAre θ h.slots (arguments f)

-- "cons(H) = θ(H')", head by head: as many facts as heads
abbrev pub HeadsAre : Binding → List Head → List Stored → Type 0
HeadsAre θ [] [] = Unit {0}
HeadsAre θ [] (s ∷ ss) = ⊥
HeadsAre θ (h ∷ hs) [] = ⊥
HeadsAre θ (h ∷ hs) (s ∷ ss) = HeadIs θ h s.fact × HeadsAre θ hs ss

-- ---- an instance: `facts` are H_1, H_2, the active fact and H_3 in written head order, and i is the active one, at head place p.
-- A matching substitution says what the heads ask and no more: it is part of every other that makes the heads equal to the facts. (The page
-- writes ∃_r(θ ∧ g) for a guard variable that stands in no head; a good table has none, and here such a variable has no value.)

pub record Matching (store : List Stored) (p : HeadPlace) (r : Rule) (i : FactId) (facts : List Stored) (θ : Binding) : Type 0 where
  pub stored : every (λ s. Memᴰ s store) facts
  pub distinct : Distinct facts  -- ⊎
  pub matched : HeadsAre θ (heads r) facts
  pub least : (η : Binding) → HeadsAre η (heads r) facts → PartOf θ η
  pub here : slice_get (ids_of facts) p.head ≡ Some i

-- "id(H_1) ++ id(H_2) ++ [i] ++ id(H_3) ++ [r]": the rule, and the identifiers in written head order
abbrev pub firing : HeadPlace → List Stored → Fired
firing p facts = record { rule = p.rule; ids = ids_of facts }

-- ---- document 01's order of instances, which the page leaves open: the identifiers in written head order, compared as lists. The active fact
-- stands at the same place of each, so that this is the order of the partners.
abbrev pub Before : List FactId → List FactId → Type 0
Before [] js = ⊥
Before (i ∷ is) [] = ⊥
Before (i ∷ is) (j ∷ js) = (i.0 < j.0) ⊎ ((i ≡ j) × Before is js)
