-- "Instances are tried in the order of the partners' identifiers, read in written head order and compared as lists, smallest first. An instance in
-- the history is passed over; the first remaining one with a true guard applies; an undefined guard met before it stops the run.": what the search
-- finds is what the first decision over one list of all matches is, and that list ascends where the store does. The active fact has one place, so
-- that comparing all identifiers compares the partners'.
use Prim.Native.Nat.{ℕ, suc, ◌≤◌, ◌<◌}
use native.Mathlib.Omega.{arith}
use mathlib.Core.Path.{◌≡◌, refl, sym, ◌∙◌, ap, ap₂}
use mathlib.Core.Logic.{◌⊎◌, inl, inr}
use mathlib.Core.Bool.{Bool, true, false}
use Rattle.std.specs.Prelude.{Option, Some, None}
use mathlib.Core.List.{List, [], ◌∷◌, ◌++◌, map, append_assoc, append-nil}
use lib.Dec.{eqb}
use lib.ListN.{length, get_or}
use Rattle.model.specs.declared.FactId.{FactId}
use Rattle.model.specs.declared.Fact.{Fact}
use Rattle.model.specs.declared.Stored.{Stored}
use Rattle.model.specs.declared.Binding.{Binding}
use Rattle.model.specs.declared.HeadPlace.{HeadPlace}
use Rattle.model.specs.Table.{Head, Rule, heads}
use Rattle.model.specs.Guards.{unbound}
use Rattle.model.specs.Matching.{match_head}
use Rattle.model.specs.declared.Fired.{Fired}
use Rattle.model.specs.Search.{Found, nothing, undefined_guard, applies, or_else, first_of, and_then, stored_fact, no_head, complete}
use Rattle.model.specs.Search.{candidate, search, from_active, with_active, first_instance}
use Rattle.model.proofs.Every.{every, every-append, every-weaken, every-map}
use Rattle.model.proofs.Kept.{Rising}

-- the identifiers of the heads that are left, and the binding at the end
pub record Match : Type 0 where
  pub ids : List FactId
  pub binding : Binding

abbrev led : FactId → Match → Match
led i m = record { ids = i ∷ m.ids; binding = m.binding }

abbrev collect : (Stored → List Match) → List Stored → List Match
collect f [] = []
collect f (s ∷ ss) = f s ++ collect f ss

abbrev if_some : {A : Type 0} → Option A → (A → List Match) → List Match
if_some None f = []
if_some (Some c) f = f c

-- ---- the order

-- as lists, smaller
abbrev pub Before : List FactId → List FactId → Type 0
Before [] js = ⊥
Before (i ∷ is) [] = ⊥
Before (i ∷ is) (j ∷ js) = (i.0 < j.0) ⊎ ((i ≡ j) × Before is js)

abbrev pub Ascending : List Match → Type 0
Ascending [] = Unit {0}
Ascending (m ∷ ms) = every (λ (n : Match). Before m.ids n.ids) ms × Ascending ms

abbrev Leads : FactId → List FactId → Type 0
Leads i [] = ⊥
Leads i (j ∷ js) = i ≡ j

abbrev StartsFrom : ℕ → List FactId → Type 0
StartsFrom lo [] = ⊥
StartsFrom lo (j ∷ js) = lo ≤ j.0

before-later : (i : FactId) (is js : List FactId) → Leads i is → StartsFrom (suc i.0) js → Before is js
before-later i [] js l s = absurd l
before-later i (k ∷ is) [] l s = absurd s
before-later i (k ∷ is) (j ∷ js) l s = inl (omega (arith, ap (λ (x : FactId). x.0) l))

leads-start : (i : FactId) (is : List FactId) (lo : ℕ) → lo ≤ i.0 → Leads i is → StartsFrom lo is
leads-start i [] lo h l = absurd l
leads-start i (k ∷ is) lo h l = omega (arith, ap (λ (x : FactId). x.0) l)

starts-lower : (is : List FactId) (lo lo' : ℕ) → lo ≤ lo' → StartsFrom lo' is → StartsFrom lo is
starts-lower [] lo lo' h s = absurd s
starts-lower (k ∷ is) lo lo' h s = omega arith

ascending-append : (ms ns : List Match) → Ascending ms → Ascending ns → every (λ (m : Match). every (λ (n : Match). Before m.ids n.ids) ns) ms
    → Ascending (ms ++ ns)
ascending-append [] ns a b c = b
ascending-append (m ∷ ms) ns a b c = (every-append (λ (n : Match). Before m.ids n.ids) ms ns a.0 c.0, ascending-append ms ns a.1 b c.1)

-- all of one list, led by the same identifier
record LedBy (i : FactId) (ms : List Match) : Type 0 where
  ascending : Ascending ms
  leading : every (λ (m : Match). Leads i m.ids) ms

led-ascending : (i : FactId) (ms : List Match) → Ascending ms → LedBy i (map (led i) ms)
led-ascending i [] a = record { ascending = tt; leading = tt }
led-ascending i (m ∷ ms) a =
    let rest = led-ascending i ms a.1 in
    record {
      ascending = (
        every-map (λ (n : Match). Before (i ∷ m.ids) n.ids) (led i) ms
            (every-weaken (λ (n : Match). Before m.ids n.ids) (λ (n : Match). Before (i ∷ m.ids) (i ∷ n.ids)) (λ n q. inr (refl, q)) ms a.0),
        rest.ascending,
      );
      leading = (refl, rest.leading);
    }

-- over a store by rising identifier
record Collected (lo : ℕ) (ms : List Match) : Type 0 where
  ascending : Ascending ms
  starting : every (λ (m : Match). StartsFrom lo m.ids) ms

collect-ascends : (f : Stored → List Match) → ((s : Stored) → LedBy s.id (f s)) → (lo hi : ℕ) (ss : List Stored) → Rising lo hi ss
    → Collected lo (collect f ss)
collect-ascends f h lo hi [] r = record { ascending = tt; starting = tt }
collect-ascends f h lo hi (s ∷ ss) r =
    let rest = collect-ascends f h (suc s.id.0) hi ss r.1 in
    record {
      ascending = ascending-append (f s) (collect f ss) (h s).ascending rest.ascending
          (every-weaken (λ (m : Match). Leads s.id m.ids) (λ (m : Match). every (λ (n : Match). Before m.ids n.ids) (collect f ss))
          (λ m l. every-weaken (λ (n : Match). StartsFrom (suc s.id.0) n.ids) (λ (n : Match). Before m.ids n.ids)
          (λ n q. before-later s.id m.ids n.ids l q) (collect f ss) rest.starting)
          (f s) (h s).leading);
      starting = every-append (λ (m : Match). StartsFrom lo m.ids) (f s) (collect f ss)
          (every-weaken (λ (m : Match). Leads s.id m.ids) (λ (m : Match). StartsFrom lo m.ids) (λ m l. leads-start s.id m.ids lo r.0 l)
          (f s) (h s).leading)
          (every-weaken (λ (m : Match). StartsFrom (suc s.id.0) m.ids) (λ (m : Match). StartsFrom lo m.ids)
          (λ m q. starts-lower m.ids lo (suc s.id.0) (omega (arith, r.0)) q) (collect f ss) rest.starting);
    }

-- ---- decisions, one after the other

or_else-nothing : (x : Found) → or_else x nothing ≡ x
or_else-nothing nothing = refl
or_else-nothing undefined_guard = refl
or_else-nothing (applies chosen b) = refl

or_else-assoc : (x y z : Found) → or_else (or_else x y) z ≡ or_else x (or_else y z)
or_else-assoc nothing y z = refl
or_else-assoc undefined_guard y z = refl
or_else-assoc (applies chosen b) y z = refl

module _ (store : List Stored) (history : List Fired) (p : HeadPlace) (r : Rule) (active : FactId) where
  -- the first of the matches, behind what is chosen, that is not passed over
  pub decide : List FactId → List Match → Found
  decide chosen [] = nothing
  decide chosen (m ∷ ms) = or_else (complete store history p r active (chosen ++ m.ids) m.binding) (decide chosen ms)

  decide-append : (chosen : List FactId) (ms ns : List Match) → decide chosen (ms ++ ns) ≡ or_else (decide chosen ms) (decide chosen ns)
  unfolding decide
  decide-append chosen [] ns = refl
  decide-append chosen (m ∷ ms) ns =
      ap (or_else (complete store history p r active (chosen ++ m.ids) m.binding)) (decide-append chosen ms ns)
      ∙ sym (or_else-assoc (complete store history p r active (chosen ++ m.ids) m.binding) (decide chosen ms) (decide chosen ns))

  decide-led : (chosen : List FactId) (i : FactId) (ms : List Match) → decide chosen (map (led i) ms) ≡ decide (chosen ++ (i ∷ [])) ms
  unfolding decide
  decide-led chosen i [] = refl
  decide-led chosen i (m ∷ ms) =
      ap₂ (λ (is : List FactId) (later : Found). or_else (complete store history p r active is m.binding) later)
      (sym (append_assoc chosen (i ∷ []) m.ids)) (decide-led chosen i ms)

  first_of-decides : (chosen : List FactId) (f : Stored → Found) (g : Stored → List Match) → ((s : Stored) → f s ≡ decide chosen (g s)) → (ss : List Stored)
      → first_of f ss ≡ decide chosen (collect g ss)
  unfolding first_of decide
  first_of-decides chosen f g h [] = refl
  first_of-decides chosen f g h (s ∷ ss) = ap₂ or_else (h s) (first_of-decides chosen f g h ss) ∙ sym (decide-append chosen (g s) (collect g ss))

  -- ---- all matches, in the order in which they are tried

  pub matches : List Head → List FactId → Binding → List Match
  matches [] chosen b = record { ids = []; binding = b } ∷ []
  matches (h ∷ hs) chosen b =
      elim (eqb (length chosen) p.head) [
        | true ↦ map (led active) (matches hs (chosen ++ (active ∷ [])) b)
        | false ↦ collect (λ s. if_some (candidate store history p r active h chosen b s) (λ c. map (led s.id) (matches hs (chosen ++ (s.id ∷ [])) c))) store
      ]

  -- the search decides over them
  pub search-decides : (hs : List Head) (chosen : List FactId) (b : Binding) → search store history p r active hs chosen b ≡ decide chosen (matches hs chosen b)
  unfolding search matches decide
  search-decides [] chosen b =
      ap (λ (is : List FactId). complete store history p r active is b) (sym (append-nil chosen))
      ∙ sym (or_else-nothing (complete store history p r active (chosen ++ []) b))
  search-decides (h ∷ hs) chosen b = go (eqb (length chosen) p.head) (λ chosen b. search-decides hs chosen b)
    where
      one : ((chosen : List FactId) (b : Binding) → search store history p r active hs chosen b ≡ decide chosen (matches hs chosen b))
          → (s : Stored) (o : Option Binding)
          → and_then o (λ c. search store history p r active hs (chosen ++ (s.id ∷ [])) c) ≡ decide chosen
          (if_some o (λ c. map (led s.id) (matches hs (chosen ++ (s.id ∷ [])) c)))
      one ih s None = refl
      one ih s (Some c) = ih (chosen ++ (s.id ∷ [])) c ∙ sym (decide-led chosen s.id (matches hs (chosen ++ (s.id ∷ [])) c))

      go : (x : Bool) → ((chosen : List FactId) (b : Binding) → search store history p r active hs chosen b ≡ decide chosen (matches hs chosen b))
          → ◌≡◌ {A = Found}
          (elim x [
            | true ↦ search store history p r active hs (chosen ++ (active ∷ [])) b
            | false ↦ first_of
                (λ s. and_then (candidate store history p r active h chosen b s) (λ c. search store history p r active hs (chosen ++ (s.id ∷ [])) c)) store
          ])
          (decide chosen (elim x [
            | true ↦ map (led active) (matches hs (chosen ++ (active ∷ [])) b)
            | false ↦ collect
                (λ s. if_some (candidate store history p r active h chosen b s) (λ c. map (led s.id) (matches hs (chosen ++ (s.id ∷ [])) c))) store
          ]))
      go true ih = ih (chosen ++ (active ∷ [])) b ∙ sym (decide-led chosen active (matches hs (chosen ++ (active ∷ [])) b))
      go false ih = first_of-decides chosen _ _ (λ s. one ih s (candidate store history p r active h chosen b s)) store

  -- and they ascend
  pub matches-ascend : (lo hi : ℕ) → Rising lo hi store → (hs : List Head) (chosen : List FactId) (b : Binding) → Ascending (matches hs chosen b)
  unfolding matches
  matches-ascend lo hi u [] chosen b = (tt, tt)
  matches-ascend lo hi u (h ∷ hs) chosen b = go (eqb (length chosen) p.head) (λ chosen b. matches-ascend lo hi u hs chosen b)
    where
      one : ((chosen : List FactId) (b : Binding) → Ascending (matches hs chosen b)) → (s : Stored) (o : Option Binding)
          → LedBy s.id (if_some o (λ c. map (led s.id) (matches hs (chosen ++ (s.id ∷ [])) c)))
      one ih s None = record { ascending = tt; leading = tt }
      one ih s (Some c) = led-ascending s.id (matches hs (chosen ++ (s.id ∷ [])) c) (ih (chosen ++ (s.id ∷ [])) c)

      go : (x : Bool) → ((chosen : List FactId) (b : Binding) → Ascending (matches hs chosen b))
          → Ascending (elim x [
            | true ↦ map (led active) (matches hs (chosen ++ (active ∷ [])) b)
            | false ↦ collect
                (λ s. if_some (candidate store history p r active h chosen b s) (λ c. map (led s.id) (matches hs (chosen ++ (s.id ∷ [])) c))) store
          ])
      go true ih = (led-ascending active (matches hs (chosen ++ (active ∷ [])) b) (ih (chosen ++ (active ∷ [])) b)).ascending
      go false ih = (collect-ascends _ (λ s. one ih s (candidate store history p r active h chosen b s)) lo hi store u).ascending

  -- ---- of the active fact at its place

  pub all_matches : List Match
  all_matches = if_some (stored_fact active store) (λ f. if_some (match_head (get_or (heads r) p.head no_head) f unbound) (matches (heads r) []))

  pub first-decides : first_instance store history p r active ≡ decide [] all_matches
  unfolding first_instance all_matches decide
  first-decides = go (stored_fact active store)
    where
      bound : (o : Option Binding) → from_active store history p r active o ≡ decide [] (if_some o (matches (heads r) []))
      bound None = refl
      bound (Some b) = search-decides (heads r) [] b

      go : (o : Option Fact) → with_active store history p r active o ≡ decide []
          (if_some o (λ f. if_some (match_head (get_or (heads r) p.head no_head) f unbound) (matches (heads r) [])))
      go None = refl
      go (Some f) = bound (match_head (get_or (heads r) p.head no_head) f unbound)

  pub all-ascend : (lo hi : ℕ) → Rising lo hi store → Ascending all_matches
  unfolding all_matches
  all-ascend lo hi u = go (stored_fact active store)
    where
      bound : (o : Option Binding) → Ascending (if_some o (matches (heads r) []))
      bound None = tt
      bound (Some b) = matches-ascend lo hi u (heads r) [] b

      go : (o : Option Fact) → Ascending (if_some o (λ f. if_some (match_head (get_or (heads r) p.head no_head) f unbound) (matches (heads r) [])))
      go None = tt
      go (Some f) = bound (match_head (get_or (heads r) p.head no_head) f unbound)
