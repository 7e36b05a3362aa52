-- What every state of a run keeps, and therefore every result: the room of the store, the stack and the history; identifiers that rise from 1
-- and of which there are no more than steps; arguments within 32 bits; active entries whose identifier was given and whose occurrence is at
-- most one past the last. The start keeps it, and each step keeps it: a firing is tested for room, and its body comes from facts and constants
-- in the range.
use Prim.Native.Nat.{ℕ, suc, ◌+◌, ◌-◌, ◌≤◌, ◌<◌}
use native.Mathlib.Omega.{arith}
use mathlib.Core.Path.{◌≡◌, refl, ap, subst}
use mathlib.Core.Bool.{Bool, true, false, not}
use Rattle.std.specs.Prelude.{Option, Some, None, slice_get}
use mathlib.Core.List.{List, [], ◌∷◌, ◌++◌, map, Memᴰ}
use lib.IntN.{ℤ}
use lib.Dec.{leb, ltb}
use lib.ListN.{length, get_or, length-append, length-map}
use borrow.Author.Tests.{ltb-true, leb-true}
use Rattle.numbers.proofs.Laws.{InRange}
use Rattle.model.specs.declared.FactId.{FactId}
use Rattle.model.specs.declared.Symbol.{Symbol}
use Rattle.model.specs.declared.Occurrence.{Occurrence}
use Rattle.model.specs.declared.RuleNumber.{RuleNumber}
use Rattle.model.specs.declared.Fact.{Fact}
use Rattle.model.specs.declared.Item.{Item}
use Rattle.model.specs.declared.Item.TheVariants.{Waiting, Active, Fail}
use Rattle.model.specs.declared.Entry.{Entry}
use Rattle.model.specs.declared.Stored.{Stored}
use Rattle.model.specs.declared.Binding.{Binding}
use Rattle.model.specs.declared.HeadPlace.{HeadPlace}
use Rattle.model.specs.Limits.{store_room, stack_room, history_room, most_goal_facts}
use Rattle.model.specs.Table.{Head, Rule, Table, BodyItem, body_fact, body_fail, rule_at, places}
use Rattle.model.specs.declared.Fired.{Fired}
use Rattle.model.specs.Search.{Found, nothing, undefined_guard, applies, is_among, nobody, four, fired_of, first_instance}
use Rattle.model.specs.Steps.{State, waiting, start, argument_values, waiting_if, item_entry, cons_defined, body_entries, keep, gone, without, pruned}
use Rattle.model.specs.Steps.{remembered, prunes, activated, advanced, dropped, pop_if, is_removed, fired, Outcome, moves, fires, fails, stops}
use Rattle.model.specs.Steps.{within_history, within_stack, with_body, with_found, at_place, activate, step_with, step_item}
use Rattle.model.specs.Results.{Counts, no_counts}
use Rattle.model.specs.Run.{Ended, ended_as, stepped, fired_once, run_from, run}
use Rattle.model.proofs.Every.{every, every-append, every-weaken, every-map}
use Rattle.model.proofs.Lists.{every-snoc, every-mem, every-kept, every-get_d, keep-length, OptionIs, index-is}
use Rattle.model.proofs.Loop.{behind_step, every-run}
use Rattle.model.proofs.Sound.{FoundIs, Instance, instance-is}
use Rattle.model.proofs.Endings.{EndsWith, at-none, StopsWith, step-ends}
use Rattle.model.proofs.Places.{places-have}
use Rattle.model.proofs.Ranges.{FactRanged, BindingRanged, ItemRanged, TableRanged, found-ranged, arguments-ranged, fact-ranged}

-- ---- identifiers that rise from lo and stay below hi

abbrev pub Rising : ℕ → ℕ → List Stored → Type 0
Rising lo hi [] = lo ≤ hi
Rising lo hi (s ∷ ss) = (lo ≤ s.id.0) × Rising (suc s.id.0) hi ss

pub rising-le : (lo hi : ℕ) (ss : List Stored) → Rising lo hi ss → lo ≤ hi
rising-le lo hi [] r = r
rising-le lo hi (s ∷ ss) r = omega (arith, r.0, rising-le (suc s.id.0) hi ss r.1)

-- so each of them lies between
pub rising-within : (lo hi : ℕ) (ss : List Stored) → Rising lo hi ss → every (λ (s : Stored). (lo ≤ s.id.0) × (s.id.0 < hi)) ss
rising-within lo hi [] r = tt
rising-within lo hi (s ∷ ss) r = (
  (r.0, rising-le (suc s.id.0) hi ss r.1),
  every-weaken (λ (x : Stored). (suc s.id.0 ≤ x.id.0) × (x.id.0 < hi)) (λ (x : Stored). (lo ≤ x.id.0) × (x.id.0 < hi))
      (λ x q. (omega (arith, r.0, q.0), q.1)) ss (rising-within (suc s.id.0) hi ss r.1),
)

rising-down : (lo lo' hi : ℕ) (ss : List Stored) → lo' ≤ lo → Rising lo hi ss → Rising lo' hi ss
rising-down lo lo' hi [] h r = omega arith
rising-down lo lo' hi (s ∷ ss) h r = (omega (arith, r.0), r.1)

pub rising-snoc : (lo hi : ℕ) (ss : List Stored) (s : Stored) → s.id.0 ≡ hi → Rising lo hi ss → Rising lo (suc hi) (ss ++ (s ∷ []))
rising-snoc lo hi [] s e r = (omega arith, omega arith)
rising-snoc lo hi (x ∷ ss) s e r = (r.0, rising-snoc (suc x.id.0) hi ss s e r.1)

pub rising-keep : (p : Stored → Bool) (lo hi : ℕ) (ss : List Stored) → Rising lo hi ss → Rising lo hi (keep p ss)
unfolding keep
rising-keep p lo hi [] r = r
rising-keep p lo hi (s ∷ ss) r = go (p s) (rising-keep p (suc s.id.0) hi ss r.1)
  where
    go : (x : Bool) → Rising (suc s.id.0) hi (keep p ss) → Rising lo hi (elim x [ true ↦ s ∷ keep p ss | false ↦ keep p ss ])
    go true h = (r.0, h)
    go false h = rising-down (suc s.id.0) lo hi (keep p ss) (omega (arith, r.0)) h

-- ---- what a state keeps; n is the next identifier

pub record WaitingKept (s : Symbol) (f : Fact) : Type 0 where
  pub same : s ≡ f.symbol
  pub ranged : FactRanged f

pub record ActiveKept (t : Table) (n : ℕ) (s : Symbol) (i : FactId) (j : ℕ) : Type 0 where
  pub from : 1 ≤ i.0
  pub given : i.0 < n
  pub first : 1 ≤ j
  pub last : j ≤ suc (length (places t s))

abbrev pub ItemKept : Table → ℕ → Symbol → Item → Type 0
ItemKept t n s (Waiting f) = WaitingKept s f
ItemKept t n s (Active i j) = ActiveKept t n s i j.0
ItemKept t n s Fail = Unit {0}

abbrev pub EntryKept : Table → ℕ → Entry → Type 0
EntryKept t n e = ItemKept t n e.symbol e.item

abbrev pub FiredKept : ℕ → Fired → Type 0
FiredKept n f = every (λ (i : FactId). i.0 < n) f.ids

abbrev pub StoredKept : Stored → Type 0
StoredKept s = FactRanged s.fact

-- after k steps
pub record Kept (t : Table) (k : ℕ) (st : State) : Type 0 where
  pub stack : length st.stack ≤ stack_room
  pub store : length st.store ≤ store_room
  pub history : length st.history ≤ history_room
  pub given : st.next ≤ suc k
  pub rising : Rising 1 st.next st.store
  pub facts : every StoredKept st.store
  pub entries : every (EntryKept t st.next) st.stack
  pub fired : every (FiredKept st.next) st.history

-- ---- the start

start-entries : (t : Table) (goal : List Fact) → every FactRanged goal → every (EntryKept t 1) (map waiting goal)
start-entries t goal u =
    every-map (EntryKept t 1) waiting goal
    (every-weaken FactRanged (λ (f : Fact). WaitingKept f.symbol f) (λ f r. record { same = refl; ranged = r }) goal u)

pub start-kept : (t : Table) (goal : List Fact) → length goal ≤ most_goal_facts → every FactRanged goal → Kept t 0 (start goal)
unfolding start
start-kept t goal h u = record {
  stack = omega (arith, length-map goal waiting);
  store = omega arith;
  history = omega arith;
  given = omega arith;
  rising = omega arith;
  facts = tt;
  entries = start-entries t goal u;
  fired = tt;
}

-- ---- the body

module _ (t : Table) (n : ℕ) (b : Binding) (k : BindingRanged b) where
  item-kept : (i : BodyItem) → ItemRanged i → OptionIs (EntryKept t n) (item_entry b i)
  unfolding item_entry
  item-kept (body_fact s es) r = go (argument_values b es) (arguments-ranged b es k r)
    where
      go : (o : Option (List ℤ)) → OptionIs (every InRange) o → OptionIs (EntryKept t n) (waiting_if s o)
      go None u = tt
      go (Some vs) u = record { same = refl; ranged = fact-ranged s vs u }
  item-kept body_fail r = tt

  body-kept : (is : List BodyItem) → every ItemRanged is → OptionIs (every (EntryKept t n)) (body_entries b is)
  unfolding body_entries
  body-kept [] r = tt
  body-kept (i ∷ is) r = go (item_entry b i) (body_entries b is) (item-kept i r.0) (body-kept is r.1)
    where
      go : (o : Option Entry) (p : Option (List Entry)) → OptionIs (EntryKept t n) o → OptionIs (every (EntryKept t n)) p
          → OptionIs (every (EntryKept t n)) (cons_defined o p)
      go None p u v = tt
      go (Some e) None u v = tt
      go (Some e) (Some es) u v = (u, v)

-- ---- a step

-- what is kept of the state after a step
abbrev pub OutcomeKept : Table → ℕ → Outcome → Type 0
OutcomeKept t k (moves st) = Kept t k st
OutcomeKept t k (fires st) = Kept t k st
OutcomeKept t k fails = Unit {0}
OutcomeKept t k (stops n p) = Unit {0}

-- all but the room of a firing's stack and history, which the step tests
within-kept : (t : Table) (k : ℕ) (n : RuleNumber) (after : State)
    → (length after.stack ≤ stack_room → length after.history ≤ history_room → Kept t k after)
    → OutcomeKept t k (within_stack prunes (leb (length after.stack) stack_room) n after)
within-kept t k n after both = go (leb (length after.stack) stack_room) refl
  where
    room : leb (length after.stack) stack_room ≡ true → (y : Bool) → leb (length after.history) history_room ≡ y → OutcomeKept t k (within_history y n after)
    room a true b = both (leb-true (length after.stack) stack_room a) (leb-true (length after.history) history_room b)
    room a false b = tt

    go : (x : Bool) → leb (length after.stack) stack_room ≡ x → OutcomeKept t k (within_stack prunes x n after)
    go true a = room a (leb (length after.history) history_room) refl
    go false a = tt

-- a given identifier stays given
later : (t : Table) (n : ℕ) (s : Symbol) (i : Item) → ItemKept t n s i → ItemKept t (suc n) s i
later t n s (Waiting f) k = k
later t n s (Active i j) k = record { from = k.from; given = omega (arith, k.given); first = k.first; last = k.last }
later t n s Fail k = tt

four-below : (n : ℕ) → 1 ≤ n → (is : List FactId) → every (λ (i : FactId). i.0 < n) is → every (λ (i : FactId). i.0 < n) (four is)
unfolding four
four-below n h is u = (at 0, (at 1, (at 2, (at 3, tt))))
  where
    at : (k : ℕ) → (get_or is k nobody).0 < n
    at k = every-get_d (λ (i : FactId). i.0 < n) is k nobody u h

remembered-kept : (n : ℕ) (removed : List Head) (f : Fired) (is : List FactId) (fs : List Fired) → FiredKept n f → every (FiredKept n) fs
    → every (FiredKept n) (remembered removed f is fs)
unfolding pruned
remembered-kept n [] f is fs k u = every-snoc (FiredKept n) fs f u k
remembered-kept n (h ∷ hs) f is fs k u = every-kept (FiredKept n) _ fs u

module _ (t : Table) (r : TableRanged t) (k : ℕ) (st : State) (e : Entry) (es : List Entry) (z : Kept t k st) (q : st.stack ≡ e ∷ es) where
  deep : suc (length es) ≤ stack_room
  deep = omega (arith, z.stack, ap (λ (l : List Entry). length l) q)

  both : every (EntryKept t st.next) (e ∷ es)
  both = subst (every (EntryKept t st.next)) q z.entries

  pop-kept : (x : Bool) → every (EntryKept t st.next) (pop_if x e es)
  pop-kept true = both.1
  pop-kept false = both

  chosen-below : (i : FactId) (p : HeadPlace) (chosen : List FactId) (b : Binding) → Instance st.store st.history p (rule_at t p.rule) i chosen b
      → every (λ (i : FactId). i.0 < st.next) chosen
  chosen-below i p chosen b c =
      subst (every (λ (i : FactId). i.0 < st.next)) c.chosen_ids
      (every-map (λ (i : FactId). i.0 < st.next) (λ (s : Stored). s.id) c.facts
      (every-weaken (λ s. Memᴰ s st.store) (λ (s : Stored). s.id.0 < st.next)
      (λ s m. (every-mem (λ (s : Stored). (1 ≤ s.id.0) × (s.id.0 < st.next)) st.store (rising-within 1 st.next st.store z.rising) s m).1)
      c.facts c.stored))

  body-step : (i : FactId) (p : HeadPlace) (chosen : List FactId) (b : Binding)
      → Instance st.store st.history p (rule_at t p.rule) i chosen b
      → (o : Option (List Entry)) → OptionIs (every (EntryKept t st.next)) o → OutcomeKept t (suc k) (with_body prunes t st e es p chosen o)
  unfolding fired without fired_of
  body-step i p chosen b c None u = tt
  body-step i p chosen b c (Some body) u =
      within-kept t (suc k) p.rule (fired prunes st e es p (rule_at t p.rule) chosen body)
      (λ roomy short. record {
        stack = roomy;
        store = omega (arith, z.store, keep-length (λ (s : Stored). not (is_among s.id (gone (rule_at t p.rule) chosen))) st.store);
        history = short;
        given = omega (arith, z.given);
        rising = rising-keep _ 1 st.next st.store z.rising;
        facts = every-kept StoredKept _ st.store z.facts;
        entries = every-append (EntryKept t st.next) body (pop_if (is_removed (rule_at t p.rule) p.head) e es) u
            (pop-kept (is_removed (rule_at t p.rule) p.head));
        fired = remembered-kept st.next (rule_at t p.rule).removed (fired_of p.rule chosen) (gone (rule_at t p.rule) chosen) st.history
            (four-below st.next (rising-le 1 st.next st.store z.rising) chosen (chosen-below i p chosen b c)) z.fired;
      })

  found-step : (i : FactId) (j : Occurrence) → ActiveKept t st.next e.symbol i j.0 → j.0 - 1 < length (places t e.symbol) → (p : HeadPlace)
      → every ItemRanged (rule_at t p.rule).body → (o : Found)
      → FoundIs (Instance st.store st.history p (rule_at t p.rule) i) o → FoundIs (λ chosen b. BindingRanged b) o
      → OutcomeKept t (suc k) (with_found prunes t st e es i j.0 p o)
  unfolding advanced
  found-step i j a l p m nothing u v = record {
    stack = deep;
    store = z.store;
    history = z.history;
    given = omega (arith, z.given);
    rising = z.rising;
    facts = z.facts;
    entries = (record { from = a.from; given = a.given; first = omega arith; last = omega (arith, a.first) }, both.1);
    fired = z.fired;
  }
  found-step i j a l p m undefined_guard u v = tt
  found-step i j a l p m (applies chosen b) u v =
      body-step i p chosen b u (body_entries b (rule_at t p.rule).body) (body-kept t st.next b v (rule_at t p.rule).body m)

  place-step : (i : FactId) (j : Occurrence) → ActiveKept t st.next e.symbol i j.0 → (o : Option HeadPlace)
      → OptionIs (λ p. every ItemRanged (rule_at t p.rule).body × (j.0 - 1 < length (places t e.symbol))) o
      → OutcomeKept t (suc k) (at_place prunes t st e es i j.0 o)
  unfolding dropped
  place-step i j a None u = record {
    stack = omega (arith, deep);
    store = z.store;
    history = z.history;
    given = omega (arith, z.given);
    rising = z.rising;
    facts = z.facts;
    entries = both.1;
    fired = z.fired;
  }
  place-step i j a (Some p) u =
      found-step i j a u.1 p u.0 (first_instance st.store st.history p (rule_at t p.rule) i)
      (instance-is st.store st.history p (rule_at t p.rule) i) (found-ranged st.store st.history p (rule_at t p.rule) i z.facts)

  activate-step : (f : Fact) → WaitingKept e.symbol f → (x : Bool) → ltb (length st.store) store_room ≡ x → OutcomeKept t (suc k) (activate st e es f x)
  unfolding activated
  activate-step f w true b = record {
    stack = deep;
    store = simp length-append (omega (arith, ltb-true (length st.store) store_room b));
    history = z.history;
    given = omega (arith, z.given);
    rising = rising-snoc 1 st.next st.store _ refl z.rising;
    facts = every-snoc StoredKept st.store _ z.facts w.ranged;
    entries = (
      record { from = rising-le 1 st.next st.store z.rising; given = omega arith; first = omega arith; last = omega arith },
      every-weaken (EntryKept t st.next) (EntryKept t (suc st.next)) (λ x q. later t st.next x.symbol x.item q) es both.1,
    );
    fired = every-weaken (FiredKept st.next) (FiredKept (suc st.next))
        (λ x q. every-weaken (λ (i : FactId). i.0 < st.next) (λ (i : FactId). i.0 < suc st.next) (λ i l. omega arith) x.ids q) st.history
        z.fired;
  }
  activate-step f w false b = tt

  item-step : (it : Item) → ItemKept t st.next e.symbol it → OutcomeKept t (suc k) (step_item t st e es it)
  unfolding step_with
  item-step (Waiting f) w = activate-step f w (ltb (length st.store) store_room) refl
  item-step (Active i j) a =
      place-step i j a (slice_get (places t e.symbol) (j.0 - 1))
      (index-is (λ (p : HeadPlace). every ItemRanged (rule_at t p.rule).body) (places t e.symbol) (j.0 - 1)
      (places-have t e.symbol (λ (r : Rule). every ItemRanged r.body) r))
  item-step Fail a = tt

  -- Each step keeps it.
  pub step-kept : OutcomeKept t (suc k) (step_item t st e es e.item)
  step-kept = item-step e.item both.0

-- ---- the run

-- of the result of a run from where the counts are c and `limit` steps are left
pub record EndKept (t : Table) (limit : ℕ) (c : Counts) (r : Ended) : Type 0 where
  pub ends : EndsWith t r.result.number r.result.place
  pub steps : r.result.steps ≤ c.steps + limit
  pub firings : r.result.firings + c.steps ≤ r.result.steps + c.firings
  pub identifiers : r.result.identifiers ≤ r.result.steps
  pub stored : r.result.stored ≡ length r.store
  pub room : length r.store ≤ store_room
  pub rising : Rising 1 (suc r.result.identifiers) r.store
  pub facts : every StoredKept r.store

-- an ending with the counts d, in a state that is kept: where c was counted, or one step later
end-kept : (t : Table) (limit : ℕ) (c d : Counts) (st : State) → Kept t c.steps st → (n p : ℕ) → EndsWith t n p
    → c.steps ≤ d.steps → d.steps ≤ c.steps + limit → d.firings ≡ c.firings
    → EndKept t limit c (ended_as n p d st)
unfolding ended_as
end-kept t limit c d st z n p h a b f =
    let low = rising-le 1 st.next st.store z.rising in
    let given : st.next ≡ suc (st.next - 1) = omega (arith, low) in
    record {
      ends = h;
      steps = b;
      firings = omega arith;
      identifiers = omega (arith, z.given);
      stored = refl;
      room = z.store;
      rising = subst (λ (n : ℕ). Rising 1 n st.store) given z.rising;
      facts = z.facts;
    }

-- a step more, that may be a firing
one-more : (t : Table) (limit : ℕ) (c d : Counts) (r : Ended) → d.steps ≡ suc c.steps → d.firings ≤ suc c.firings
    → EndKept t limit d r → EndKept t (suc limit) c r
one-more t limit c d r e h x = record {
  ends = x.ends;
  steps = omega (arith, x.steps);
  firings = omega (arith, x.firings);
  identifiers = x.identifiers;
  stored = x.stored;
  room = x.room;
  rising = x.rising;
  facts = x.facts;
}

module _ (t : Table) (r : TableRanged t) where
  behind-kept : (limit : ℕ) (c : Counts) (st : State) → Kept t c.steps st
      → ((c : Counts) (st : State) → Kept t c.steps st → EndKept t limit c (run_from t limit c st))
      → (o : Outcome) → OutcomeKept t (suc c.steps) o → StopsWith t o → EndKept t (suc limit) c (behind_step prunes t limit c st o)
  behind-kept limit c st z ih (moves next) u v = one-more t limit c (stepped c) _ refl (omega arith) (ih (stepped c) next u)
  behind-kept limit c st z ih (fires next) u v = one-more t limit c (fired_once c) _ refl (omega arith) (ih (fired_once c) next u)
  behind-kept limit c st z ih fails u v =
      end-kept t (suc limit) c (stepped c) st z 1 0 (at-none 1 (omega arith) refl) (omega arith) (omega arith) refl
  behind-kept limit c st z ih (stops n p) u v =
      end-kept t (suc limit) c c st z n p v.1 (omega arith) (omega arith) refl

  -- Every result of a run.
  pub run-kept : (goal : List Fact) → length goal ≤ most_goal_facts → every FactRanged goal → (limit : ℕ)
      → EndKept t limit no_counts (run t limit (start goal))
  unfolding run
  run-kept goal h u limit =
      every-run t (λ limit c st r. Kept t c.steps st → EndKept t limit c r)
      (λ limit c st q z. end-kept t limit c c st z 0 0 (at-none 0 (omega arith) refl) (omega arith) (omega arith) refl)
      (λ c st z. end-kept t 0 c c st z 2 0 (at-none 2 (omega arith) refl) (omega arith) (omega arith) refl)
      (λ limit c st e es q ih z. behind-kept limit c st z ih (step_item t st e es e.item) (step-kept t r c.steps st e es z q)
      (step-ends prunes t st e es e.item))
      limit no_counts (start goal) (start-kept t goal h u)
