-- The search for the first applicable instance.
use Rattle.std.specs.Prelude.{Bool, true, false, not, ◌&&◌, ◌||◌, List, [], ◌∷◌, ◌++◌, eqb, get_or, length}
use Rattle.std.specs.Prelude.{Option, Some, None}
use Rattle.model.specs.declared.FactId.{FactId}
use Rattle.model.specs.declared.RuleNumber.{RuleNumber}
use Rattle.model.specs.declared.Fact.{Fact}
use Rattle.model.specs.declared.Stored.{Stored}
use Rattle.model.specs.declared.Fired.{Fired}
use Rattle.model.specs.declared.Binding.{Binding}
use Rattle.model.specs.declared.HeadPlace.{HeadPlace}
use Rattle.model.specs.Table.{Head, Rule, heads}
use Rattle.model.specs.Guards.{unbound, guard_value}
use Rattle.model.specs.Matching.{match_head}

abbrev pub same_id : FactId → FactId → Bool
same_id i j = eqb i.0 j.0

unfoldable pub is_among : FactId → List FactId → Bool
is_among i [] = false
is_among i (j ∷ js) = same_id i j || is_among i js

-- ---- the history: "for rules with no removed head, the rule and the identifiers in head order"

-- identifiers begin at 1, so that 0 names nobody: it stands where a rule has no further head
abbrev pub nobody : FactId
nobody = record { 0 = 0 }

unfoldable pub four : List FactId → List FactId
four is = get_or is 0 nobody ∷ get_or is 1 nobody ∷ get_or is 2 nobody ∷ get_or is 3 nobody ∷ []

unfoldable pub fired_of : RuleNumber → List FactId → Fired
fired_of n is = record { rule = n; ids = four is }

unfoldable pub same_ids : List FactId → List FactId → Bool
same_ids [] [] = true
same_ids [] (j ∷ js) = false
same_ids (i ∷ is) [] = false
same_ids (i ∷ is) (j ∷ js) = same_id i j && same_ids is js

unfoldable pub same_fired : Fired → Fired → Bool
same_fired d e = eqb d.rule.0 e.rule.0 && same_ids d.ids e.ids

unfoldable pub in_history : Fired → List Fired → Bool
in_history e [] = false
in_history e (d ∷ ds) = same_fired d e || in_history e ds

-- ---- what a search finds: no instance, an undefined guard, or the identifiers that the heads got, in head order, with the binding

pub data Found : Type 0 where
  nothing : Found
  undefined_guard : Found
  applies : List FactId → Binding → Found

abbrev pub judged : Option Bool → List FactId → Binding → Found
judged (Some true) chosen b = applies chosen b
judged (Some false) chosen b = nothing
judged None chosen b = undefined_guard

abbrev pub unless_known : Bool → Option Bool → List FactId → Binding → Found
unless_known true g chosen b = nothing
unless_known false g chosen b = judged g chosen b

-- the first of the stored facts, in order, with which something is found
abbrev pub or_else : Found → Found → Found
or_else nothing later = later
or_else undefined_guard later = undefined_guard
or_else (applies chosen b) later = applies chosen b

unfoldable pub first_of : (Stored → Found) → List Stored → Found
first_of f [] = nothing
first_of f (s ∷ ss) = let later = first_of f ss in or_else (f s) later

abbrev pub and_then : Option Binding → (Binding → Found) → Found
and_then None next = nothing
and_then (Some b) next = next b

abbrev pub found_if : Bool → Found → Found
found_if true f = f
found_if false f = nothing

-- the stored fact of an identifier
abbrev pub fact_if : Bool → Fact → Option Fact → Option Fact
fact_if true f later = Some f
fact_if false f later = later

unfoldable pub stored_fact : FactId → List Stored → Option Fact
stored_fact i [] = None
stored_fact i (s ∷ ss) = fact_if (same_id s.id i) s.fact (stored_fact i ss)

-- "An instance gives every head a different stored fact, the active fact at its place"
unfoldable pub may_stand : FactId → List FactId → FactId → Bool
may_stand active chosen i = not (same_id i active) && not (is_among i chosen)

abbrev pub no_head : Head
no_head = record { symbol = record { 0 = 0 }; slots = [] }

module _ (store : List Stored) (history : List Fired) (p : HeadPlace) (r : Rule) (active : FactId) where
  -- "An instance in the history is passed over; the first remaining one with a true guard applies; an undefined guard met before it
  -- stops the run."
  unfoldable pub complete : List FactId → Binding → Found
  complete chosen b = unless_known (in_history (fired_of p.rule chosen) history) (guard_value b r.guards) chosen b

  -- one stored fact as the partner for head h
  unfoldable pub candidate : Head → List FactId → Binding → Stored → Option Binding
  candidate h chosen b s = elim (may_stand active chosen s.id) [ true ↦ match_head h s.fact b | false ↦ None ]

  -- "Instances are tried in the order of the partners' identifiers, read in written head order and compared as lists, smallest first."
  -- The heads that are left, the facts chosen for those before them, and the binding so far
  unfoldable pub search : List Head → List FactId → Binding → Found
  search [] chosen b = complete chosen b
  search (h ∷ hs) chosen b =
      elim (eqb (length chosen) p.head) [
        | true ↦ search hs (chosen ++ (active ∷ [])) b
        | false ↦ first_of (λ s. and_then (candidate h chosen b s) (λ c. search hs (chosen ++ (s.id ∷ [])) c)) store
      ]

  -- the active fact is bound at its place first. "An active fact that another firing removed has no instance"
  abbrev pub from_active : Option Binding → Found
  from_active None = nothing
  from_active (Some b) = search (heads r) [] b

  abbrev pub with_active : Option Fact → Found
  with_active None = nothing
  with_active (Some f) = from_active (match_head (get_or (heads r) p.head no_head) f unbound)

  unfoldable pub first_instance : Found
  first_instance = with_active (stored_fact active store)
