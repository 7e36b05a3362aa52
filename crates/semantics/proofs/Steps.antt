-- Every step of the definition is a transition of the refined semantics, on the same stack, store and next identifier, with a history that keeps
-- every firing: a step that is no firing is Activate, Drop or Default, a firing is Simplify or Propagate with the first instance, Fail is Solve.
-- Where the run stops, it is where document 01 says, with its number and place. What the search says of all instances is what Default and `First`
-- ask for. K is what else is known of store, history and T: nothing, or that the history is what document 01's holds of T (Held).
use Prim.Native.Nat.{ℕ, ◌-◌, ◌≤◌, ◌<◌}
use native.Mathlib.Omega.{arith}
use mathlib.Core.Path.{◌≡◌, refl, sym, ◌∙◌, ap, subst}
use mathlib.Core.Bool.{Bool, true, false}
use Rattle.std.specs.Prelude.{Option, Some, None, slice_get}
use mathlib.Core.Logic.{◌⊎◌, inl, inr}
use mathlib.Core.List.{List, [], ◌∷◌, ◌++◌, map, Memᴰ}
use lib.Dec.{leb, ltb}
use lib.ListN.{length, drop}
use borrow.Author.Tests.{leb-true, leb-false, ltb-true, ltb-false}
use Rattle.model.specs.declared.FactId.{FactId}
use Rattle.model.specs.declared.Symbol.{Symbol}
use Rattle.model.specs.declared.RuleNumber.{RuleNumber}
use Rattle.model.specs.declared.Occurrence.{Occurrence}
use Rattle.model.specs.declared.Fact.{Fact}
use Rattle.model.specs.declared.Item.{Item}
use Rattle.model.specs.declared.Item.TheVariants.{Waiting, Active, Fail}
use Rattle.model.specs.declared.Entry.{Entry}
use Rattle.model.specs.declared.Stored.{Stored}
use Rattle.model.specs.declared.Binding.{Binding}
use Rattle.model.specs.declared.HeadPlace.{HeadPlace}
use Rattle.model.specs.Limits.{most_heads, store_room, stack_room}
use Rattle.model.specs.Table.{Rule, Table, heads, rule_at, places}
use Rattle.model.specs.Guards.{guard_value}
use Rattle.model.specs.declared.Fired.{Fired}
use Rattle.model.specs.Search.{fired_of, in_history, Found, nothing, undefined_guard, applies, first_instance}
use Rattle.model.specs.Steps.{State, waiting, start, active_entry, body_entries, gone, without, Memory, prunes, activated, advanced, dropped, pop_if}
use Rattle.model.specs.Steps.{is_removed, fired, Outcome, moves, fires, fails, stops, within_history, within_stack, with_body, with_found, at_place}
use Rattle.model.specs.Steps.{activate, step_with, step_item}
use Rattle.model.specs.Keeping.{keeps_all}
use Rattle.model.proofs.Every.{every, every-append}
use Rattle.model.proofs.Lists.{every-mem, map-drop, OptionIs}
use Rattle.model.proofs.Sound.{ids_of}
use Rattle.model.proofs.Decoded.{PlaceIn, places-in}
use Rattle.model.proofs.Places.{places-have}
use Rattle.semantics.specs.Instances.{Matching, firing}
use Rattle.semantics.specs.Refined.{Trying, Applies, Fires, Solve}
use Rattle.semantics.specs.Chosen.{First, Moves, activates, drops, defaults, FiresFirst, simplifies, propagates, rule_fired, Undefined, StackAbove}
use Rattle.semantics.specs.Chosen.{Stops, undefined, no_body, store_full, stack_above, history_above}
use Rattle.semantics.proofs.Found.{Picked, Verdict}
use Rattle.semantics.proofs.Occurrence.{index-mem, first-verdict}
use Rattle.semantics.proofs.Following.{ItemIs, EntryIs, Follows, known-here, known-there, now, store-behind, rising-behind, new-whole, Behind}
use Rattle.semantics.proofs.Following.{pruned-behind, kept-behind, body-entries, activated-follows, dropped-follows, advanced-follows}

-- a rule has at most four heads
abbrev pub FewHeads : Table → Type 0
FewHeads t = every (λ (r : Rule). length (heads r) ≤ most_heads) t.rules

-- the state of the relation: the definition's, with the history T
abbrev pub seen : State → List Fired → State
seen st T = record { stack = st.stack; store = st.store; history = T; next = st.next }

-- at the start no firing has been put down
pub start-follows : (t : Table) (goal : List Fact) → Follows t (start goal) []
unfolding start
start-follows t goal = record { rising = omega arith; entries = all goal; keeps = tt; noted = tt; accounted = tt; whole = tt }
  where
    all : (goal : List Fact) → every (EntryIs 1) (map waiting goal)
    all [] = tt
    all (f ∷ goal) = (refl, all goal)

-- an ending where the step is not taken has a number from 3 on
pub stops-number : (t : Table) (σ : State) (n p : ℕ) → Stops t σ n p → 3 ≤ n
stops-number t σ n p (undefined u) = omega arith
stops-number t σ n p (no_body u) = omega arith
stops-number t σ n p (store_full u) = omega arith
stops-number t σ n p (stack_above u) = omega arith
stops-number t σ n p (history_above u) = omega arith

-- ---- what each outcome of a step comes to

abbrev pub Knows : Type 1
Knows = List Stored → List Fired → List Fired → Type 0

module _ (t : Table) (K : Knows) (st : State) (T : List Fired) where
  -- a firing of rule n
  pub record FiredTo (next : State) (n : RuleNumber) : Type 0 where
    pub T' : List Fired
    pub follows : Follows t next T'
    pub known : K next.store next.history T'
    pub fires : FiresFirst t (seen st T) (seen next T')
    pub ruled : rule_fired t fires ≡ n

  -- for 7 the history of the memory m has no room; that so document 01's has none needs K
  pub data Stopped (m : Memory) : ℕ → ℕ → Type 0 where
    stopped : {n p : ℕ} → Stops t (seen st T) n p → Stopped m n p
    crowded : (n : RuleNumber) (next : State) → FiredTo next n → length next.stack ≤ stack_room → m.fits next.history ≡ false → Stopped m 7 n.0

  abbrev pub Taken : Memory → Outcome → Type 0
  Taken m (moves next) = (T' : List Fired) × Follows t next T' × K next.store next.history T' × Moves t (seen st T) (seen next T')
  Taken m (fires next) = (n : RuleNumber) × FiredTo next n × (length next.stack ≤ stack_room) × (m.fits next.history ≡ true)
  Taken m fails = (σ : State) × Solve t (seen st T) σ
  Taken m (stops n p) = Stopped m n p

  pub stopped-number : (m : Memory) (n p : ℕ) → Stopped m n p → 3 ≤ n
  stopped-number m n p (stopped u) = stops-number t (seen st T) n p u
  stopped-number m n p (crowded r next f l e) = omega arith

-- nothing else is known
abbrev pub Anything : Knows
Anything S history T = Unit {0}

module _ (t : Table) (few : FewHeads t) (st : State) (T : List Fired) (k : Follows t st T) (e : Entry) (es : List Entry) (q : st.stack ≡ e ∷ es) where
  entries : every (EntryIs st.next) (e ∷ es)
  entries = subst (every (EntryIs st.next)) q k.entries

  -- a history that accounts for each firing that it may have behind it
  pub record Recalls (K : Knows) (m : Memory) : Type 0 where
    pub here : K st.store st.history T
    pub entered : (f : Fact) → K (st.store ++ (record { id = record { 0 = st.next }; fact = f } ∷ [])) st.history T
    pub behind : (p : HeadPlace) (i : FactId) (facts : List Stored) (b : Binding) (w : Matching st.store p (rule_at t p.rule) i facts b)
        → Behind t st T k p i facts b w
        (m.after (rule_at t p.rule).removed (fired_of p.rule (ids_of facts)) (ids_of (drop (length (rule_at t p.rule).kept) facts)) st.history)
    pub known : (p : HeadPlace) (i : FactId) (facts : List Stored) (b : Binding) (w : Matching st.store p (rule_at t p.rule) i facts b)
        → K (now t st T k p i facts b w)
        (m.after (rule_at t p.rule).removed (fired_of p.rule (ids_of facts)) (ids_of (drop (length (rule_at t p.rule).kept) facts)) st.history)
        (firing p facts ∷ T)

  -- ---- Activate

  top-waits : (f : Fact) → e.item ≡ Waiting f → st.stack ≡ waiting f ∷ es
  top-waits f w =
      let s : e.symbol ≡ f.symbol = subst (ItemIs st.next e.symbol) w entries.0 in
      q ∙ ap (λ (x : Entry). x ∷ es) (λ i. record { symbol = s i; item = w i })

  activate-taken : (K : Knows) (m : Memory) → Recalls K m → (f : Fact) → e.item ≡ Waiting f → (x : Bool) → ltb (length st.store) store_room ≡ x
      → Taken t K st T m (activate st e es f x)
  unfolding activated
  activate-taken K m o f w true y =
      let s : e.symbol ≡ f.symbol = subst (ItemIs st.next e.symbol) w entries.0 in (
        T,
        activated-follows t st T k e es entries f,
        o.entered f,
        activates (record {
          step = record {
            c = f;
            under = es;
            top = top-waits f w;
            stack = ap (λ (x : Symbol). active_entry x (record { 0 = st.next }) 1 ∷ es) s;
            store = (λ x m. turn x (mathlib.Core.List.Memᴰ.append_cases st.store m), λ x m. back x (mathlib.Core.List.Memᴰ.cases_cons m));
            history = refl;
            next = refl;
          };
          room = ltb-true (length st.store) store_room y;
          listed = (activated-follows t st T k e es entries f).rising;
        }),
      )
    where
      turn : (x : Stored) → Memᴰ x st.store ⊎ Memᴰ x (record { id = record { 0 = st.next }; fact = f } ∷ [])
          → Memᴰ x (record { id = record { 0 = st.next }; fact = f } ∷ st.store)
      turn x (inl m) = mathlib.Core.List.Memᴰ.tail m
      turn x (inr m) = mathlib.Core.List.Memᴰ.head (mathlib.Core.List.Memᴰ.eq_of_singleton m)

      back : (x : Stored) → (x ≡ record { id = record { 0 = st.next }; fact = f }) ⊎ Memᴰ x st.store
          → Memᴰ x (st.store ++ (record { id = record { 0 = st.next }; fact = f } ∷ []))
      back x (inl m) = mathlib.Core.List.Memᴰ.append_right st.store (mathlib.Core.List.Memᴰ.head m)
      back x (inr m) = mathlib.Core.List.Memᴰ.append_left (record { id = record { 0 = st.next }; fact = f } ∷ []) m
  activate-taken K m o f w false y =
      stopped (store_full (record { c = f; under = es; top = top-waits f w; full = ltb-false (length st.store) store_room y }))

  -- ---- an active fact on top

  module _ (i : FactId) (j : ℕ) (top : st.stack ≡ active_entry e.symbol i j ∷ es) (given : i.0 < st.next) where
    -- Drop
    drop-taken : (K : Knows) (m : Memory) → Recalls K m → slice_get (places t e.symbol) (j - 1) ≡ None → Taken t K st T m (moves (dropped st es))
    unfolding dropped
    drop-taken K m r o = (
      T,
      dropped-follows t st T k e es entries,
      r.here,
      drops (record { symbol = e.symbol; id = i; j = j; top = top; absent = o; store = refl; history = refl; next = refl }),
    )

    module _ (p : HeadPlace) (o : slice_get (places t e.symbol) (j - 1) ≡ Some p) where
      abbrev r : Rule
      r = rule_at t p.rule

      abbrev tried : Trying t (seen st T).stack
      tried = record { symbol = e.symbol; id = i; j = j; under = es; place = p; top = top; occurs = o }

      few-here : length (heads r) ≤ most_heads
      few-here = every-mem (λ (x : HeadPlace). length (heads (rule_at t x.rule)) ≤ most_heads) (places t e.symbol)
          (places-have t e.symbol (λ (x : Rule). length (heads x) ≤ most_heads) few) p (index-mem (places t e.symbol) (j - 1) p o)

      inside : p.head < length (heads r)
      inside = (every-mem (PlaceIn t e.symbol) (places t e.symbol) (places-in t e.symbol) p (index-mem (places t e.symbol) (j - 1) p o)).head_in

      abbrev Way : List Stored → Binding → Type 0
      Way = Matching st.store p r i

      -- what is not in T is not in the definition's history, and the other way round
      unknown-here : (facts : List Stored) (θ : Binding) → Way facts θ → (Memᴰ (firing p facts) T → ⊥)
          → in_history (fired_of p.rule (ids_of facts)) st.history ≡ false
      unknown-here facts θ m n = go (in_history (fired_of p.rule (ids_of facts)) st.history) refl
        where
          go : (x : Bool) → in_history (fired_of p.rule (ids_of facts)) st.history ≡ x → in_history (fired_of p.rule (ids_of facts)) st.history ≡ false
          go true h = absurd (n (known-there t st T k p i facts θ m few-here h))
          go false h = h

      unknown-there : (facts : List Stored) (θ : Binding) → Way facts θ → in_history (fired_of p.rule (ids_of facts)) st.history ≡ false
          → Memᴰ (firing p facts) T → ⊥
      unknown-there facts θ m h n = let g = known-here t st T k p i facts θ m n in cc

      -- what the search picks is the first
      picked-first : (g : Option Bool) (facts : List Stored) (θ : Binding) → Picked st.history p r Way [] g facts θ → First t (seen st T) tried g facts θ
      picked-first g facts θ u = record {
        matching = u.way;
        fresh = unknown-there facts θ u.way u.fresh;
        guard = u.guard;
        before = λ facts' θ' m b n. u.first facts' θ' m b (unknown-here facts' θ' m n);
      }

      -- what the search says here
      verdict : Verdict st.history p r Way [] (first_instance st.store st.history p r i)
      verdict = first-verdict st.store st.history p r st.next k.rising inside i

      all-passed : Verdict st.history p r Way [] nothing → (facts : List Stored) (θ : Binding) → Way facts θ → (Memᴰ (firing p facts) T → ⊥)
          → guard_value θ r.guards ≡ Some false
      all-passed u facts θ m n = u facts θ m (unknown-here facts θ m n)

      none-applies : Verdict st.history p r Way [] nothing → (facts : List Stored) (θ : Binding) → Applies t st.store T p i facts θ → ⊥
      none-applies u facts θ a =
          let f = all-passed u facts θ a.enabled.matching a.fresh in
          let g = a.enabled.guard in
          cc

      -- where the definition takes Default, no instance applies
      pub default-none : first_instance st.store st.history p r i ≡ nothing → (facts : List Stored) (θ : Binding) → Applies t st.store T p i facts θ → ⊥
      default-none e = none-applies (subst (Verdict st.history p r Way []) e verdict)

      -- where it stops with 3, the first instance that is left has a guard with no value
      unfoldable left-undefined : Verdict st.history p r Way [] undefined_guard → Undefined t (seen st T)
      left-undefined u = record { tried = tried; facts = u.0; θ = u.1; first = picked-first None u.0 u.1 u.2 }

      pub stopped-first : first_instance st.store st.history p r i ≡ undefined_guard → Undefined t (seen st T)
      stopped-first e = left-undefined (subst (Verdict st.history p r Way []) e verdict)

      -- Default
      default-taken : (K : Knows) (m : Memory) → Recalls K m → Verdict st.history p r Way [] nothing → Taken t K st T m (moves (advanced st e es i j))
      unfolding advanced
      default-taken K m o u = (
        T,
        advanced-follows t st T k e es entries i j given,
        o.here,
        defaults (record {
          step = record { tried = tried; none = none-applies u; stack = refl; store = refl; history = refl; next = refl };
          passed = all-passed u;
        }),
      )

      -- Simplify and Propagate
      module _ (facts : List Stored) (b : Binding) (u : Picked st.history p r Way [] (Some true) facts b) (C : List Entry)
          (body : body_entries b r.body ≡ Some C) where
        C-entries : every (EntryIs st.next) C
        C-entries = subst (OptionIs (every (EntryIs st.next))) body (body-entries st.next b r.body)

        first : First t (seen st T) tried (Some true) facts b
        first = picked-first (Some true) facts b u

        applied : Applies t st.store T p i facts b
        applied = record { enabled = record { matching = u.way; guard = u.guard }; fresh = first.fresh }

        fire : Fires t st.store (now t st T k p i facts b u.way) p facts b C
        fire = record { body = body; store = store-behind t st T k p i facts b u.way }

        module _ (K : Knows) (history : List Fired) (v : Behind t st T k p i facts b u.way history)
            (known : K (now t st T k p i facts b u.way) history (firing p facts ∷ T)) where
          abbrev behind : List Entry → State
          behind stack = record { stack = stack; store = now t st T k p i facts b u.way; history = history; next = st.next }

          behind-follows : (stack : List Entry) → every (EntryIs st.next) stack → Follows t (behind stack) (firing p facts ∷ T)
          behind-follows stack n = record {
            rising = rising-behind t st T k p i facts b u.way;
            entries = n;
            keeps = v.keeps;
            noted = v.noted;
            accounted = v.accounted;
            whole = (new-whole t st T k p i facts b u.way, k.whole);
          }

          fires-taken : (x : Bool) → is_removed r p.head ≡ x → FiredTo t K st T (behind (C ++ pop_if x e es)) p.rule
          unfolding is_removed
          fires-taken true x = record {
            T' = firing p facts ∷ T;
            follows = behind-follows (C ++ es) (every-append (EntryIs st.next) C es C-entries entries.1);
            known = known;
            fires = simplifies (record {
              tried = tried;
              removed = leb-true (length r.kept) p.head x;
              facts = facts;
              θ = b;
              C = C;
              applies = applied;
              fires = fire;
              stack = refl;
              history = refl;
              next = refl;
            }) first (rising-behind t st T k p i facts b u.way);
            ruled = refl;
          }
          fires-taken false x = record {
            T' = firing p facts ∷ T;
            follows = behind-follows (C ++ (e ∷ es)) (every-append (EntryIs st.next) C (e ∷ es) C-entries entries);
            known = known;
            fires = propagates (record {
              tried = tried;
              kept = leb-false (length r.kept) p.head x;
              facts = facts;
              θ = b;
              C = C;
              applies = applied;
              fires = fire;
              stack = ap (λ (l : List Entry). C ++ l) (sym q ∙ top);
              history = refl;
              next = refl;
            }) first (rising-behind t st T k p i facts b u.way);
            ruled = refl;
          }

      -- with a history that accounts for the firing
      module _ (K : Knows) (m : Memory) (recalls : Recalls K m) where
        -- the definition takes the identifiers of the removed heads from those of all heads
        fired-taken : (facts : List Stored) (b : Binding) → Picked st.history p r Way [] (Some true) facts b → (C : List Entry)
            → body_entries b r.body ≡ Some C → FiredTo t K st T (fired m st e es p r (ids_of facts) C) p.rule
        unfolding fired gone
        fired-taken facts b u C h =
            let f : Fired = fired_of p.rule (ids_of facts) in
            let H : List FactId = ids_of (drop (length r.kept) facts) in
            subst
            (λ (g : List FactId). FiredTo t K st T (record {
              stack = C ++ pop_if (is_removed r p.head) e es;
              store = without g st.store;
              history = m.after r.removed f g st.history;
              next = st.next;
            }) p.rule)
            (map-drop (λ (s : Stored). s.id) (length r.kept) facts)
            (fires-taken facts b u C h K (m.after r.removed f H st.history) (recalls.behind p i facts b u.way) (recalls.known p i facts b u.way)
            (is_removed r p.head) refl)

        within-history : (x : Bool) (n : RuleNumber) (s : State) → FiredTo t K st T s n → length s.stack ≤ stack_room → m.fits s.history ≡ x
            → Taken t K st T m (within_history x n s)
        within-history true n s u l e = (n, u, l, e)
        within-history false n s u l e = crowded n s u l e

        within-stack : (x : Bool) (n : RuleNumber) (s : State) → FiredTo t K st T s n → leb (length s.stack) stack_room ≡ x
            → Taken t K st T m (within_stack m x n s)
        within-stack true n s u e = within-history (m.fits s.history) n s u (leb-true (length s.stack) stack_room e) refl
        within-stack false n s u e =
            let a : StackAbove t (seen st T)
            = record { τ = seen s u.T'; fires = u.fires; above = leb-false (length s.stack) stack_room e } in
            subst (λ (x : RuleNumber). Stopped t K st T m 6 x.0) u.ruled (stopped (stack_above a))

        body-taken : (facts : List Stored) (b : Binding) → Picked st.history p r Way [] (Some true) facts b → (c : Option (List Entry))
            → body_entries b r.body ≡ c → Taken t K st T m (with_body m t st e es p (ids_of facts) c)
        body-taken facts b u None h =
            stopped (no_body (record { tried = tried; facts = facts; θ = b; first = picked-first (Some true) facts b u; body = h }))
        body-taken facts b u (Some C) h =
            let s : State = fired m st e es p r (ids_of facts) C in
            within-stack (leb (length s.stack) stack_room) p.rule s (fired-taken facts b u C h) refl

        found-taken : (f : Found) → Verdict st.history p r Way [] f → Taken t K st T m (with_found m t st e es i j p f)
        unfolding left-undefined
        found-taken nothing u = default-taken K m recalls u
        found-taken undefined_guard u = stopped (undefined (left-undefined u))
        found-taken (applies chosen b) u =
            subst (λ (is : List FactId). Taken t K st T m (with_body m t st e es p is (body_entries b r.body))) (sym u.2)
            (body-taken u.0 b u.1 (body_entries b r.body) refl)

    place-taken : (K : Knows) (m : Memory) → Recalls K m → (o : Option HeadPlace) → slice_get (places t e.symbol) (j - 1) ≡ o
        → Taken t K st T m (at_place m t st e es i j o)
    place-taken K m w None o = drop-taken K m w o
    place-taken K m w (Some p) o = found-taken p o K m w (first_instance st.store st.history p (rule_at t p.rule) i) (verdict p o)

  -- ---- the top entry decides

  fail-taken : e.item ≡ Fail → (σ : State) × Solve t (seen st T) σ
  fail-taken w = (
    record { stack = es; store = st.store; history = T; next = st.next },
    record { c = e; top = q; builtin = w; store = refl; history = refl; next = refl },
  )

  module _ (i : FactId) (j : Occurrence) (w : e.item ≡ Active i j) where
    active-top : st.stack ≡ active_entry e.symbol i j.0 ∷ es
    active-top = q ∙ ap (λ (x : Entry). x ∷ es) (λ n. record { symbol = e.symbol; item = w n })

    active-given : i.0 < st.next
    active-given = subst (ItemIs st.next e.symbol) w entries.0

  pub item-taken : (K : Knows) (m : Memory) → Recalls K m → (it : Item) → e.item ≡ it → Taken t K st T m (step_with m t st e es it)
  unfolding step_with
  item-taken K m r (Waiting f) w = activate-taken K m r f w (ltb (length st.store) store_room) refl
  item-taken K m r (Active i j) w =
      place-taken i j.0 (active-top i j w) (active-given i j w) K m r (slice_get (places t e.symbol) (j.0 - 1)) refl
  item-taken K m r Fail w = fail-taken w

  pub step-taken : (it : Item) → e.item ≡ it → Taken t Anything st T prunes (step_item t st e es it)
  step-taken = item-taken Anything prunes (record {
    here = tt;
    entered = λ f. tt;
    behind = λ p i facts b w. pruned-behind t st T k p i facts b w (rule_at t p.rule).removed refl;
    known = λ p i facts b w. tt;
  })

  -- every step of the run whose history keeps all is a transition too
  pub keep-taken : (it : Item) → e.item ≡ it → Taken t Anything st T keeps_all (step_with keeps_all t st e es it)
  keep-taken = item-taken Anything keeps_all (record {
    here = tt;
    entered = λ f. tt;
    behind = λ p i facts b w. kept-behind t st T k p i facts b w (rule_at t p.rule).removed refl;
    known = λ p i facts b w. tt;
  })
