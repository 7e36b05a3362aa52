-- The mission's third demand, of the definition. The potential of a state is what its stack can still cost, and what each unit of its weight
-- can:
--   a waiting fact: M + 2 (Activate, M Defaults, Drop); an active one at occurrence j of n: n + 2 - j; fail: nothing
--   a unit of weight: B (M + 2) + 1 (a firing, and its body's facts)
-- Each step but Fail lowers the potential, and each firing lowers the weight. Fail comes once, as the last step. A rule that loses weight
-- removes something, so that nothing is put down in the history.
use Prim.Native.Nat.{ℕ, zero, suc, ◌+◌, ◌-◌, ◌*◌, ◌≤◌, ◌<◌}
use native.Mathlib.Nat.{mul-le-mul_right}
use native.Mathlib.Omega.{arith}
use mathlib.Core.Path.{◌≡◌, refl, sym, ◌∙◌, ap, subst}
use mathlib.Core.Bool.{Bool, true, false, not, ◌&&◌, ◌||◌}
use Rattle.std.specs.Prelude.{Option, Some, None, slice_get}
use mathlib.Core.List.{List, [], ◌∷◌, ◌++◌, map, Memᴰ}
use lib.IntN.{ℤ}
use lib.Dec.{leb, ltb}
use lib.ListN.{length, drop}
use borrow.Author.Tests.{ltb-false, leb-false, ne_eqb, eq-eqb}
use Rattle.model.specs.declared.FactId.{FactId}
use Rattle.model.specs.declared.Symbol.{Symbol}
use Rattle.model.specs.declared.RuleNumber.{RuleNumber}
use Rattle.model.specs.declared.Fact.{Fact}
use Rattle.model.specs.declared.Item.{Item}
use Rattle.model.specs.declared.Item.TheVariants.{Waiting, Active, Fail}
use Rattle.model.specs.declared.Entry.{Entry}
use Rattle.model.specs.declared.Stored.{Stored}
use Rattle.model.specs.declared.Binding.{Binding}
use Rattle.model.specs.declared.HeadPlace.{HeadPlace}
use Rattle.model.specs.Limits.{store_room, stack_room, history_room}
use Rattle.model.specs.Table.{Head, Rule, Table, BodyItem, body_fact, body_fail, rule_at, places}
use Rattle.model.specs.declared.Fired.{Fired}
use Rattle.model.specs.Search.{Found, nothing, undefined_guard, applies, same_id, is_among, fired_of, first_instance}
use Rattle.model.specs.Steps.{State, waiting, start, argument_values, waiting_if, item_entry, cons_defined, body_entries, keep, gone, without, pruned}
use Rattle.model.specs.Steps.{remembered, prunes, active_entry, activated, advanced, dropped, pop_if, is_removed, fired, Outcome, moves, fires}
use Rattle.model.specs.Steps.{fails, stops, within_history, within_stack, with_body, with_found, at_place, activate, step_with, step_item}
use Rattle.model.specs.Results.{Counts, no_counts}
use Rattle.model.specs.Run.{Ended, ended_as, stepped, fired_once, run_from, run}
use Rattle.model.specs.Weights.{goal_weight, heads_weight, body_weight, body_facts, step_bound}
use Rattle.model.proofs.Every.{every, every-drop}
use Rattle.model.proofs.Lists.{keep-length, keep-keep, map-drop, OptionIs, index-is}
use Rattle.model.proofs.Loop.{behind_step, every-run}
use Rattle.model.proofs.Sound.{Differs, Distinct, ids_of, symbols_of, head_symbols, FoundIs, Instance, instance-is}
use Rattle.model.proofs.Places.{places-have}

-- ---- what the theorem asks of weights

-- the rule removes more weight than its body adds
abbrev pub Loses : (Symbol → ℕ) → Rule → Type 0
Loses w r = body_weight w r.body < heads_weight w r.removed

-- and its body has at most B facts
pub record Light (w : Symbol → ℕ) (B : ℕ) (r : Rule) : Type 0 where
  pub loses : Loses w r
  pub short : body_facts r.body ≤ B

-- each symbol weighs something, each rule loses weight, no symbol has more than M head places, no body more than B facts
pub record Weighs (t : Table) (w : Symbol → ℕ) (M B : ℕ) : Type 0 where
  pub something : (s : Symbol) → 1 ≤ w s
  pub rules : every (Light w B) t.rules
  pub few_places : (s : Symbol) → length (places t s) ≤ M

-- ---- the weight of the store, and of what leaves it

-- facts leave one by one
without-cons : (i : FactId) (is : List FactId) (ss : List Stored) → without is (without (i ∷ []) ss) ≡ without (i ∷ is) ss
unfolding without is_among
without-cons i is ss =
    keep-keep (λ (s : Stored). not (is_among s.id is)) (λ (s : Stored). not (same_id s.id i || false))
    (λ (s : Stored). not (same_id s.id i || is_among s.id is))
    (λ s. go (same_id s.id i) (is_among s.id is)) ss
  where
    go : (a b : Bool) → not (a || b) ≡ (not (a || false) && not b)
    go true b = refl
    go false b = refl

module _ (w : Symbol → ℕ) where
  store_weight : List Stored → ℕ
  store_weight [] = 0
  store_weight (s ∷ ss) = w s.fact.symbol + store_weight ss

  store_weight-snoc : (ss : List Stored) (s : Stored) → store_weight (ss ++ (s ∷ [])) ≡ store_weight ss + w s.fact.symbol
  unfolding store_weight
  store_weight-snoc [] s = omega arith
  store_weight-snoc (r ∷ ss) s = omega (arith, store_weight-snoc ss s)

  keep-le : (p : Stored → Bool) (ss : List Stored) → store_weight (keep p ss) ≤ store_weight ss
  unfolding store_weight keep
  keep-le p [] = omega arith
  keep-le p (s ∷ ss) = go (p s) (keep-le p ss)
    where
      go : (x : Bool) → store_weight (keep p ss) ≤ store_weight ss
          → store_weight (elim x [ true ↦ s ∷ keep p ss | false ↦ keep p ss ]) ≤ w s.fact.symbol + store_weight ss
      go true h = omega arith
      go false h = omega arith

  -- a stored fact that is not kept takes its weight along
  keep-loses : (p : Stored → Bool) (s : Stored) → p s ≡ false → (ss : List Stored) → Memᴰ s ss
      → store_weight (keep p ss) + w s.fact.symbol ≤ store_weight ss
  unfolding store_weight keep
  keep-loses p s d [] m = elim m [ ]
  keep-loses p s d (r ∷ ss) (Memᴰ.head e) = go (p r) refl (keep-le p ss)
    where
      go : (x : Bool) → p r ≡ x → store_weight (keep p ss) ≤ store_weight ss
          → store_weight (elim x [ true ↦ r ∷ keep p ss | false ↦ keep p ss ]) + w s.fact.symbol ≤ w r.fact.symbol + store_weight ss
      go true q h = absurd (let z : true ≡ false = sym q ∙ ap p (sym e) ∙ d in cc)
      go false q h = omega (arith, ap (λ (z : Stored). w z.fact.symbol) e)
  keep-loses p s d (r ∷ ss) (Memᴰ.tail m) = go (p r) (keep-loses p s d ss m)
    where
      go : (x : Bool) → store_weight (keep p ss) + w s.fact.symbol ≤ store_weight ss
          → store_weight (elim x [ true ↦ r ∷ keep p ss | false ↦ keep p ss ]) + w s.fact.symbol ≤ w r.fact.symbol + store_weight ss
      go true h = omega arith
      go false h = omega arith

  -- one that is kept is still there
  keep-has : (p : Stored → Bool) (s : Stored) → p s ≡ true → (ss : List Stored) → Memᴰ s ss → Memᴰ s (keep p ss)
  unfolding keep
  keep-has p s d [] m = elim m [ ]
  keep-has p s d (r ∷ ss) (Memᴰ.head e) = go (p r) (ap p (sym e) ∙ d)
    where
      go : (x : Bool) → x ≡ true → Memᴰ s (elim x [ true ↦ r ∷ keep p ss | false ↦ keep p ss ])
      go true q = Memᴰ.head e
      go false q = absurd cc
  keep-has p s d (r ∷ ss) (Memᴰ.tail m) = go (p r) (keep-has p s d ss m)
    where
      go : (x : Bool) → Memᴰ s (keep p ss) → Memᴰ s (elim x [ true ↦ r ∷ keep p ss | false ↦ keep p ss ])
      go true h = Memᴰ.tail h
      go false h = h

  without-loses : (m : Stored) (ss : List Stored) → Memᴰ m ss → store_weight (without (m.id ∷ []) ss) + w m.fact.symbol ≤ store_weight ss
  unfolding without is_among
  without-loses m ss h =
      keep-loses (λ (s : Stored). not (same_id s.id m.id || false)) m (ap (λ (x : Bool). not (x || false)) (eq-eqb m.id.0 m.id.0 refl)) ss h

  without-has : (m : Stored) (ss ms : List Stored) → every (λ s. Memᴰ s ss) ms → every (Differs m) ms
      → every (λ s. Memᴰ s (without (m.id ∷ []) ss)) ms
  unfolding without is_among
  without-has m ss [] u d = tt
  without-has m ss (r ∷ ms) u d = (
    keep-has (λ (s : Stored). not (same_id s.id m.id || false)) r
        (ap (λ (x : Bool). not (x || false)) (ne_eqb r.id.0 m.id.0 (λ (q : r.id.0 ≡ m.id.0). d.0 (sym q)))) ss u.0,
    without-has m ss ms u.1 d.1,
  )

  without-le : (is : List FactId) (ss : List Stored) → store_weight (without is ss) ≤ store_weight ss
  unfolding without
  without-le is ss = keep-le (λ (s : Stored). not (is_among s.id is)) ss

  -- different stored facts that leave take their weight along
  removed-weight : (ms ss : List Stored) → every (λ s. Memᴰ s ss) ms → Distinct ms → store_weight (without (ids_of ms) ss) + store_weight ms ≤ store_weight ss
  unfolding store_weight
  removed-weight [] ss u d = omega (arith, without-le [] ss)
  removed-weight (m ∷ ms) ss u d =
      omega (
        arith,
        ap store_weight (without-cons m.id (ids_of ms) ss),
        without-loses m ss u.0,
        removed-weight ms (without (m.id ∷ []) ss) (without-has m ss ms u.1 d.0) d.1,
      )

  whole-weight : (facts : List Stored) (hs : List Head) → symbols_of facts ≡ head_symbols hs → store_weight facts ≡ heads_weight w hs
  unfolding store_weight heads_weight
  whole-weight [] [] e = refl
  whole-weight [] (h ∷ hs) e = cc
  whole-weight (c ∷ facts) [] e = cc
  whole-weight (c ∷ facts) (h ∷ hs) e =
      let p : c.fact.symbol ≡ h.symbol = cc in
      let q : symbols_of facts ≡ head_symbols hs = cc in
      omega (arith, ap w p, whole-weight facts hs q)

  rest-weight : (kept removed : List Head) (facts : List Stored) → symbols_of facts ≡ head_symbols (kept ++ removed)
      → store_weight (drop (length kept) facts) ≡ heads_weight w removed
  rest-weight [] removed facts e = whole-weight facts removed e
  rest-weight (k ∷ kept) removed [] e = cc
  rest-weight (k ∷ kept) removed (c ∷ facts) e =
      let q : symbols_of facts ≡ head_symbols (kept ++ removed) = cc in
      rest-weight kept removed facts q

  light-store : ((s : Symbol) → 1 ≤ w s) → (ss : List Stored) → length ss ≤ store_weight ss
  unfolding store_weight
  light-store h [] = omega arith
  light-store h (s ∷ ss) = omega (arith, h s.fact.symbol, light-store h ss)

distinct-drop : (n : ℕ) (ss : List Stored) → Distinct ss → Distinct (drop n ss)
distinct-drop zero ss d = d
distinct-drop (suc n) [] d = tt
distinct-drop (suc n) (s ∷ ss) d = distinct-drop n ss d.1

-- a rule that loses weight puts nothing down in the history
remembered-short : (w : Symbol → ℕ) (removed : List Head) (n : ℕ) → n < heads_weight w removed → (f : Fired) (is : List FactId) (fs : List Fired)
    → length (remembered removed f is fs) ≤ length fs
unfolding heads_weight pruned
remembered-short w [] n h f is fs = absurd (omega arith)
remembered-short w (x ∷ xs) n h f is fs = keep-length _ fs

-- a firing: the weight falls by one or more, and the stack costs less than U more
fall : (W W' U c c' : ℕ) → W' < W → c' < c + U → c' + W' * U < c + W * U
fall W W' U c c' h k = omega (arith, mul-le-mul_right U h)

-- ---- the potential, and what a step does to it

module _ (t : Table) (w : Symbol → ℕ) (M B : ℕ) where
  abbrev item_weight : Item → ℕ
  item_weight (Waiting f) = w f.symbol
  item_weight (Active i j) = 0
  item_weight Fail = 0

  stack_weight : List Entry → ℕ
  stack_weight [] = 0
  stack_weight (e ∷ es) = item_weight e.item + stack_weight es

  abbrev item_cost : Symbol → Item → ℕ
  item_cost s (Waiting f) = M + 2
  item_cost s (Active i j) = suc (suc (length (places t s)) - j.0)
  item_cost s Fail = 0

  stack_cost : List Entry → ℕ
  stack_cost [] = 0
  stack_cost (e ∷ es) = item_cost e.symbol e.item + stack_cost es

  -- what a unit of weight can cost
  unit : ℕ
  unit = B * (M + 2) + 1

  weight : List Entry → List Stored → ℕ
  weight es ss = store_weight w ss + stack_weight es

  potential : List Entry → List Stored → ℕ
  potential es ss = stack_cost es + weight es ss * unit

  stack_weight-append : (xs ys : List Entry) → stack_weight (xs ++ ys) ≡ stack_weight xs + stack_weight ys
  unfolding stack_weight
  stack_weight-append [] ys = omega arith
  stack_weight-append (x ∷ xs) ys = omega (arith, stack_weight-append xs ys)

  stack_cost-append : (xs ys : List Entry) → stack_cost (xs ++ ys) ≡ stack_cost xs + stack_cost ys
  unfolding stack_cost
  stack_cost-append [] ys = omega arith
  stack_cost-append (x ∷ xs) ys = omega (arith, stack_cost-append xs ys)

  -- a body's entries weigh what the body does, and its facts cost M + 2 each
  record Pushed (is : List BodyItem) (es : List Entry) : Type 0 where
    weighs : stack_weight es ≡ body_weight w is
    costs : stack_cost es ≡ body_facts is * (M + 2)

  body-is : (b : Binding) (is : List BodyItem) → OptionIs (Pushed is) (body_entries b is)
  unfolding body_entries item_entry stack_weight stack_cost body_weight body_facts
  body-is b [] = record { weighs = refl; costs = omega arith }
  body-is b (body_fact s xs ∷ is) = go (argument_values b xs) (body_entries b is) (body-is b is)
    where
      go : (o : Option (List ℤ)) (p : Option (List Entry)) → OptionIs (Pushed is) p → OptionIs (Pushed (body_fact s xs ∷ is)) (cons_defined (waiting_if s o) p)
      go None p u = tt
      go (Some vs) None u = tt
      go (Some vs) (Some es) u = record { weighs = omega (arith, u.weighs); costs = omega (arith, u.costs) }
  body-is b (body_fail ∷ is) = go (body_entries b is) (body-is b is)
    where
      go : (p : Option (List Entry)) → OptionIs (Pushed is) p → OptionIs (Pushed (body_fail ∷ is)) (cons_defined (item_entry b body_fail) p)
      go None u = tt
      go (Some es) u = record { weighs = omega (arith, u.weighs); costs = omega (arith, u.costs) }

  -- Φ is the potential, W the weight and H the length of the history before the step
  record Less (Φ W H : ℕ) (st : State) : Type 0 where
    cheaper : potential st.stack st.store < Φ
    lighter : weight st.stack st.store ≤ W
    shorter : length st.history ≤ H

  abbrev Falls : ℕ → ℕ → ℕ → Outcome → Type 0
  Falls Φ W H (moves st) = Less Φ W H st
  Falls Φ W H (fires st) = Less Φ W H st × (weight st.stack st.store < W)
  Falls Φ W H fails = Unit {0}
  Falls Φ W H (stops n p) = (2 < n) × (n ≡ 5 → store_room < W) × (n ≡ 7 → history_room < H)

  within-falls : (Φ W H : ℕ) (x : Bool) (n : RuleNumber) (st : State) → potential st.stack st.store < Φ → weight st.stack st.store < W
      → length st.history ≤ H
      → Falls Φ W H (within_stack prunes x n st)
  within-falls Φ W H true n st h k l = go (leb (length st.history) history_room) refl
    where
      go : (y : Bool) → leb (length st.history) history_room ≡ y → Falls Φ W H (within_history y n st)
      go true q = (record { cheaper = h; lighter = omega arith; shorter = l }, k)
      go false q = (omega arith, λ x. omega arith, λ x. omega (arith, leb-false (length st.history) history_room q))
  within-falls Φ W H false n st h k l = (omega arith, λ x. omega arith, λ x. omega arith)

  after-weight : (x : Bool) (e : Entry) (es : List Entry) → stack_weight (pop_if x e es) ≤ stack_weight (e ∷ es)
  unfolding stack_weight
  after-weight true e es = omega arith
  after-weight false e es = omega arith

  after-cost : (x : Bool) (e : Entry) (es : List Entry) → stack_cost (pop_if x e es) ≤ stack_cost (e ∷ es)
  unfolding stack_cost
  after-cost true e es = omega arith
  after-cost false e es = omega arith

  module _ (h : Weighs t w M B) (st : State) where
    -- a firing
    body-falls : (e : Entry) (es : List Entry) (p : HeadPlace) (i : FactId) (chosen : List FactId) (b : Binding) → Light w B (rule_at t p.rule)
        → Instance st.store st.history p (rule_at t p.rule) i chosen b → (o : Option (List Entry)) → OptionIs (Pushed (rule_at t p.rule).body) o
        → Falls (potential (e ∷ es) st.store) (weight (e ∷ es) st.store) (length st.history) (with_body prunes t st e es p chosen o)
    unfolding potential weight unit fired gone
    body-falls e es p i chosen b l c None u = (omega arith, λ x. omega arith, λ x. omega arith)
    body-falls e es p i chosen b l c (Some body) u =
        let r : Rule = rule_at t p.rule in
        let k : ℕ = length r.kept in
        let rest : List Entry = pop_if (is_removed r p.head) e es in
        let left
        = removed-weight w (drop k c.facts) st.store (every-drop (λ s. Memᴰ s st.store) k c.facts c.stored)
        (distinct-drop k c.facts c.distinct) in
        let same : ids_of (drop k c.facts) ≡ drop k chosen = map-drop (λ (s : Stored). s.id) k c.facts ∙ ap (drop k) c.chosen_ids in
        let less = ap (λ (is : List FactId). store_weight w (without is st.store)) same in
        let lost = rest-weight w r.kept r.removed c.facts c.symbols in
        let lighter : store_weight w (without (drop k chosen) st.store) + stack_weight (body ++ rest) < store_weight w st.store + stack_weight (e ∷ es)
        = omega (arith, left, less, lost, stack_weight-append body rest, after-weight (is_removed r p.head) e es, u.weighs, l.loses) in
        let dearer : stack_cost (body ++ rest) < stack_cost (e ∷ es) + (B * (M + 2) + 1)
        = omega (arith, stack_cost-append body rest, after-cost (is_removed r p.head) e es, u.costs, mul-le-mul_right (M + 2) l.short) in
        within-falls _ _ _ (leb (length (body ++ rest)) stack_room) p.rule _
        (fall _ _ (B * (M + 2) + 1) (stack_cost (e ∷ es)) (stack_cost (body ++ rest)) lighter dearer) lighter
        (remembered-short w r.removed (body_weight w r.body) l.loses (fired_of p.rule chosen) (drop k chosen) st.history)

    module _ (s : Symbol) (es : List Entry) where
      abbrev FallsFrom : Item → Outcome → Type 0
      FallsFrom it =
          Falls (potential (record { symbol = s; item = it } ∷ es) st.store) (weight (record { symbol = s; item = it } ∷ es) st.store)
          (length st.history)

      -- a search: Default, an undefined guard, or a firing
      found-falls : (i : FactId) (j : ℕ) (p : HeadPlace) → Light w B (rule_at t p.rule) → j - 1 < length (places t s)
          → (o : Found) → FoundIs (Instance st.store st.history p (rule_at t p.rule) i) o
          → FallsFrom (Active i (record { 0 = j })) (with_found prunes t st (active_entry s i j) es i j p o)
      unfolding potential weight stack_weight stack_cost advanced
      found-falls i j p l k nothing u = record { cheaper = omega arith; lighter = omega arith; shorter = omega arith }
      found-falls i j p l k undefined_guard u = (omega arith, λ x. omega arith, λ x. omega arith)
      found-falls i j p l k (applies chosen b) u =
          body-falls (active_entry s i j) es p i chosen b l u (body_entries b (rule_at t p.rule).body) (body-is b (rule_at t p.rule).body)

      -- an active entry: Drop, or a search
      place-falls : (i : FactId) (j : ℕ) (o : Option HeadPlace) → OptionIs (λ p. Light w B (rule_at t p.rule) × (j - 1 < length (places t s))) o
          → FallsFrom (Active i (record { 0 = j })) (at_place prunes t st (active_entry s i j) es i j o)
      unfolding potential weight stack_weight stack_cost dropped
      place-falls i j None u = record { cheaper = omega arith; lighter = omega arith; shorter = omega arith }
      place-falls i j (Some p) u =
          found-falls i j p u.0 u.1 (first_instance st.store st.history p (rule_at t p.rule) i)
          (instance-is st.store st.history p (rule_at t p.rule) i)

      activate-falls : (f : Fact) (x : Bool) → ltb (length st.store) store_room ≡ x
          → FallsFrom (Waiting f) (activate st (record { symbol = s; item = Waiting f }) es f x)
      unfolding potential weight stack_weight stack_cost activated
      activate-falls f true q =
          let new : Stored = record { id = record { 0 = st.next }; fact = f } in
          let now : weight (active_entry s (record { 0 = st.next }) 1 ∷ es) (st.store ++ (new ∷ []))
          ≡ weight (record { symbol = s; item = Waiting f } ∷ es) st.store
          = omega (arith, store_weight-snoc w st.store new) in
          record { cheaper = omega (arith, ap (λ (x : ℕ). x * unit) now, h.few_places s); lighter = omega arith; shorter = omega arith }
      activate-falls f false q = (
        omega arith,
        λ x. omega (arith, ltb-false (length st.store) store_room q, light-store w h.something st.store, h.something f.symbol),
        λ x. omega arith,
      )

      step-falls : (it : Item) → FallsFrom it (step_item t st (record { symbol = s; item = it }) es it)
      unfolding step_with
      step-falls (Waiting f) = activate-falls f (ltb (length st.store) store_room) refl
      step-falls (Active i j) =
          place-falls i j.0 (slice_get (places t s) (j.0 - 1))
          (index-is (λ (p : HeadPlace). Light w B (rule_at t p.rule)) (places t s) (j.0 - 1) (places-have t s (Light w B) h.rules))
      step-falls Fail = tt

  -- ---- the run, from a state with the counts c, with `limit` steps left

  pub record Bounded (limit : ℕ) (c : Counts) (Φ W H : ℕ) (r : Ended) : Type 0 where
    pub steps : r.result.steps ≤ c.steps + Φ + 1
    pub firings : r.result.firings ≤ c.firings + W
    pub limitless : Φ < limit → r.result.number ≡ 2 → ⊥
    pub roomy : W ≤ store_room → r.result.number ≡ 5 → ⊥
    pub forgetful : H ≤ history_room → r.result.number ≡ 7 → ⊥

  abbrev BoundedFrom : ℕ → Counts → State → Ended → Type 0
  BoundedFrom limit c st = Bounded limit c (potential st.stack st.store) (weight st.stack st.store) (length st.history)

  -- what follows the outcome o of one more step, if the rest of the run is bounded
  next-bounded : (limit : ℕ) (c : Counts) (Φ W H : ℕ) (st : State) → ((c : Counts) (st : State) → BoundedFrom limit c st (run_from t limit c st))
      → (o : Outcome) → Falls Φ W H o → Bounded (suc limit) c Φ W H (behind_step prunes t limit c st o)
  unfolding ended_as
  next-bounded limit c Φ W H st rest (moves next) u =
      let r = rest (stepped c) next in
      record {
        steps = omega (arith, r.steps, u.cheaper);
        firings = omega (arith, r.firings, u.lighter);
        limitless = λ l. r.limitless (omega (arith, u.cheaper));
        roomy = λ l. r.roomy (omega (arith, u.lighter));
        forgetful = λ l. r.forgetful (omega (arith, u.shorter));
      }
  next-bounded limit c Φ W H st rest (fires next) u =
      let r = rest (fired_once c) next in
      record {
        steps = omega (arith, r.steps, u.0.cheaper);
        firings = omega (arith, r.firings, u.1);
        limitless = λ l. r.limitless (omega (arith, u.0.cheaper));
        roomy = λ l. r.roomy (omega (arith, u.0.lighter));
        forgetful = λ l. r.forgetful (omega (arith, u.0.shorter));
      }
  next-bounded limit c Φ W H st rest fails u = record {
    steps = omega arith;
    firings = omega arith;
    limitless = λ l q. omega arith;
    roomy = λ l q. omega arith;
    forgetful = λ l q. omega arith;
  }
  next-bounded limit c Φ W H st rest (stops n p) u = record {
    steps = omega arith;
    firings = omega arith;
    limitless = λ l q. omega (arith, u.0);
    roomy = λ l q. omega (arith, u.1 q);
    forgetful = λ l q. omega (arith, u.2 q);
  }

  -- an ending at once, in 0 or in 2 without a step left
  at-once : (limit : ℕ) (c : Counts) (st : State) (n : ℕ) → n ≤ 2 → (n ≡ 2 → limit ≡ 0) → BoundedFrom limit c st (ended_as n 0 c st)
  unfolding ended_as
  at-once limit c st n h z = record {
    steps = omega arith;
    firings = omega arith;
    limitless = λ l q. omega (arith, z q);
    roomy = λ l q. omega arith;
    forgetful = λ l q. omega arith;
  }

  run-bounded : Weighs t w M B → (limit : ℕ) (c : Counts) (st : State) → BoundedFrom limit c st (run_from t limit c st)
  run-bounded h =
      every-run t BoundedFrom (λ limit c st q. at-once limit c st 0 (omega arith) (λ z. omega arith)) (λ c st. at-once 0 c st 2 (omega arith) (λ z. refl))
      (λ limit c st e es q ih. next-bounded limit c (potential st.stack st.store) (weight st.stack st.store) (length st.history) st ih
      (step_item t st e es e.item)
      (subst (λ (l : List Entry). Falls (potential l st.store) (weight l st.store) (length st.history) (step_item t st e es e.item)) (sym q)
      (step-falls h st e.symbol es e.item)))

  -- the goal's entries, before the first step
  start-weight : (goal : List Fact) → stack_weight (map waiting goal) ≡ goal_weight w goal
  unfolding stack_weight goal_weight
  start-weight [] = refl
  start-weight (f ∷ fs) = omega (arith, start-weight fs)

  start-cost : (goal : List Fact) → stack_cost (map waiting goal) ≡ length goal * (M + 2)
  unfolding stack_cost
  start-cost [] = omega arith
  start-cost (f ∷ fs) = omega (arith, start-cost fs)

  start-potential : (goal : List Fact) → potential (map waiting goal) [] ≡ length goal * (M + 2) + goal_weight w goal * unit
  unfolding potential weight store_weight
  start-potential goal =
      let e : store_weight w [] + stack_weight (map waiting goal) ≡ goal_weight w goal = omega (arith, start-weight goal) in
      omega (arith, start-cost goal, ap (λ (x : ℕ). x * unit) e)

  -- The third demand, and that no history is ever needed.
  pub record Demand3 (goal : List Fact) (limit : ℕ) : Type 0 where
    pub steps : (run t limit (start goal)).result.steps ≤ step_bound (length goal) B (goal_weight w goal) M
    pub firings : (run t limit (start goal)).result.firings ≤ goal_weight w goal
    pub never_limit : step_bound (length goal) B (goal_weight w goal) M ≤ limit → (run t limit (start goal)).result.number ≡ 2 → ⊥
    pub never_full : goal_weight w goal ≤ store_room → (run t limit (start goal)).result.number ≡ 5 → ⊥
    pub never_history : (run t limit (start goal)).result.number ≡ 7 → ⊥

  pub demand3 : Weighs t w M B → (goal : List Fact) (limit : ℕ) → Demand3 goal limit
  unfolding run start step_bound weight unit store_weight
  demand3 h goal limit =
      let r = run-bounded h limit no_counts (start goal) in
      let sw = start-weight goal in
      let sp = start-potential goal in
      record {
        steps = omega (arith, r.steps, sp);
        firings = omega (arith, r.firings, sw);
        never_limit = λ l. r.limitless (omega (arith, sp));
        never_full = λ l. r.roomy (omega (arith, sw));
        never_history = r.forgetful (omega arith);
      }
