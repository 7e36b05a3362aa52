-- "Pruning changes no step, against a history that keeps all." The pruned history is what is left of the other when all that names a removed
-- fact is taken out, and no stored fact is among those; 0, which names nobody, never is either. So both histories know the same instances.
use Prim.Native.Nat.{ℕ, zero, suc, ◌-◌, ◌≤◌, ◌<◌}
use native.Mathlib.Omega.{arith}
use mathlib.Core.Path.{◌≡◌, refl, sym, ◌∙◌, ap, ap₂, subst}
use mathlib.Core.Bool.{Bool, true, false, not, ◌&&◌, ◌||◌}
use Rattle.std.specs.Prelude.{Option, Some, None, slice_get}
use mathlib.Core.List.{List, [], ◌∷◌, ◌++◌, Memᴰ}
use lib.Dec.{eqb, leb, ltb}
use lib.ListN.{length, get_or}
use borrow.Author.Tests.{ne_eqb}
use Rattle.model.specs.declared.FactId.{FactId}
use Rattle.model.specs.declared.RuleNumber.{RuleNumber}
use Rattle.model.specs.declared.Fact.{Fact}
use Rattle.model.specs.declared.Item.{Item}
use Rattle.model.specs.declared.Item.TheVariants.{Waiting, Active, Fail}
use Rattle.model.specs.declared.Entry.{Entry}
use Rattle.model.specs.declared.Stored.{Stored}
use Rattle.model.specs.declared.Binding.{Binding}
use Rattle.model.specs.declared.HeadPlace.{HeadPlace}
use Rattle.model.specs.Limits.{store_room, stack_room, history_room}
use Rattle.model.specs.Table.{Head, Rule, Table, heads, rule_at, places}
use Rattle.model.specs.Guards.{unbound, guard_value}
use Rattle.model.specs.Matching.{match_head}
use Rattle.model.specs.declared.Fired.{Fired}
use Rattle.model.specs.Search.{same_id, is_among, nobody, four, fired_of, same_ids, same_fired, in_history, Found, nothing, undefined_guard}
use Rattle.model.specs.Search.{applies, unless_known, or_else, first_of, and_then, stored_fact, no_head, complete, candidate, search, from_active}
use Rattle.model.specs.Search.{with_active, first_instance}
use Rattle.model.specs.Steps.{State, start, body_entries, keep, gone, without, names, pruned, remembered, prunes, activated, advanced, dropped}
use Rattle.model.specs.Steps.{pop_if, is_removed, fired, Outcome, moves, fires, fails, stops, within_history, within_stack, with_body, with_found}
use Rattle.model.specs.Steps.{at_place, activate, step_with, step_item}
use Rattle.model.specs.Results.{Counts, no_counts}
use Rattle.model.specs.Run.{Ended, ended_as, stepped, fired_once, run_with, run_from, run}
use Rattle.model.specs.Keeping.{kept_all, keeps_all, keep_run}
use Rattle.model.proofs.Every.{every, every-append, every-drop, every-weaken, every-map}
use Rattle.model.proofs.Lists.{every-snoc, every-mem, every-keep, every-kept, every-get_d, keep-keep, keep-snoc, OptionIs, or-both, and-left}
use Rattle.model.proofs.Lists.{and-right, not-true}
use Rattle.model.proofs.Loop.{behind_step}
use Rattle.model.proofs.Sound.{same-id, stored-is, FoundIs, Instance, instance-is}

-- ---- lists of identifiers

pub is_among-append : (i : FactId) (g h : List FactId) → is_among i (g ++ h) ≡ (is_among i g || is_among i h)
unfolding is_among
is_among-append i [] h = refl
is_among-append i (j ∷ g) h = go (same_id i j) (is_among-append i g h)
  where
    go : (x : Bool) → is_among i (g ++ h) ≡ (is_among i g || is_among i h) → (x || is_among i (g ++ h)) ≡ ((x || is_among i g) || is_among i h)
    go true e = refl
    go false e = e

or-swap : (a b c d : Bool) → ((a || b) || (c || d)) ≡ ((a || c) || (b || d))
or-swap true b c d = refl
or-swap false true true d = refl
or-swap false true false d = refl
or-swap false false c d = refl

names-append : (is g h : List FactId) → names is (g ++ h) ≡ (names is g || names is h)
unfolding names
names-append [] g h = refl
names-append (i ∷ is) g h =
    ap₂ (λ (x : Bool) (y : Bool). x || y) (is_among-append i g h) (names-append is g h) ∙ or-swap (is_among i g) (is_among i h) (names is g) (names is h)

not-or : (a b : Bool) → not (a || b) ≡ (not a && not b)
not-or true b = refl
not-or false b = refl

pruned-pruned : (g h : List FactId) (fs : List Fired) → pruned h (pruned g fs) ≡ pruned (g ++ h) fs
unfolding pruned
pruned-pruned g h fs =
    keep-keep (λ (f : Fired). not (names f.ids h)) (λ (f : Fired). not (names f.ids g)) (λ (f : Fired). not (names f.ids (g ++ h)))
    (λ f. ap not (names-append f.ids g h) ∙ not-or (names f.ids g) (names f.ids h)) fs

pub same_ids-eq : (is js : List FactId) → same_ids is js ≡ true → is ≡ js
unfolding same_ids
same_ids-eq [] [] e = refl
same_ids-eq [] (j ∷ js) e = cc
same_ids-eq (i ∷ is) [] e = cc
same_ids-eq (i ∷ is) (j ∷ js) e =
    ap₂ (λ (x : FactId) (y : List FactId). x ∷ y) (same-id i j (and-left (same_id i j) (same_ids is js) e))
    (same_ids-eq is js (and-right (same_id i j) (same_ids is js) e))

-- what names no fact of `gone` is in the one history where it is in the other
pub in_history-pruned : (gone : List FactId) (e : Fired) → names e.ids gone ≡ false → (fs : List Fired) → in_history e (pruned gone fs) ≡ in_history e fs
unfolding pruned keep in_history same_fired
in_history-pruned gone e q [] = refl
in_history-pruned gone e q (d ∷ ds) = go (names d.ids gone) refl (in_history-pruned gone e q ds)
  where
    and-false : (a : Bool) → (a && false) ≡ false
    and-false true = refl
    and-false false = refl

    other : names d.ids gone ≡ true → (b : Bool) → same_ids d.ids e.ids ≡ b → (eqb d.rule.0 e.rule.0 && b) ≡ false
    other m true s = let z = ap (λ (l : List FactId). names l gone) (same_ids-eq d.ids e.ids s) in cc
    other m false s = and-false (eqb d.rule.0 e.rule.0)

    go : (x : Bool) → names d.ids gone ≡ x → in_history e (pruned gone ds) ≡ in_history e ds
        → in_history e (elim (not x) [ true ↦ d ∷ pruned gone ds | false ↦ pruned gone ds ])
        ≡ ((eqb d.rule.0 e.rule.0 && same_ids d.ids e.ids) || in_history e ds)
    go true m h = rw (other m (same_ids d.ids e.ids) refl) h
    go false m h = rw h refl

-- ---- the search

-- an identifier that is none of those that are gone
abbrev pub Live : List FactId → FactId → Type 0
Live gone i = is_among i gone ≡ false

live-names : (gone is : List FactId) → every (Live gone) is → names is gone ≡ false
unfolding names
live-names gone [] u = refl
live-names gone (i ∷ is) u = or-both (is_among i gone) (names is gone) u.0 (live-names gone is u.1)

pub four-live : (gone is : List FactId) → Live gone nobody → every (Live gone) is → names (four is) gone ≡ false
unfolding four
four-live gone is n u = live-names gone (four is) (at 0, (at 1, (at 2, (at 3, tt))))
  where
    at : (k : ℕ) → Live gone (get_or is k nobody)
    at k = every-get_d (Live gone) is k nobody u n

first_of-eq : (f g : Stored → Found) (ss : List Stored) → ((s : Stored) → Memᴰ s ss → f s ≡ g s) → first_of f ss ≡ first_of g ss
unfolding first_of
first_of-eq f g [] h = refl
first_of-eq f g (s ∷ ss) h = ap₂ (λ (x : Found) (y : Found). or_else x y) (h s (Memᴰ.head refl)) (first_of-eq f g ss (λ r m. h r (Memᴰ.tail m)))

and_then-eq : (o : Option Binding) (f g : Binding → Found) → ((c : Binding) → f c ≡ g c) → and_then o f ≡ and_then o g
and_then-eq None f g h = refl
and_then-eq (Some c) f g h = h c

module _ (gone : List FactId) (all : List Fired) (store : List Stored) (nobody_live : Live gone nobody) (live : every (λ (s : Stored). Live gone s.id) store)
    (p : HeadPlace) (r : Rule) (active : FactId) where
  search-eq : Live gone active → (hs : List Head) (chosen : List FactId) (b : Binding) → every (Live gone) chosen
      → search store (pruned gone all) p r active hs chosen b ≡ search store all p r active hs chosen b
  unfolding search complete candidate fired_of
  search-eq a [] chosen b u =
      ap (λ (x : Bool). unless_known x (guard_value b r.guards) chosen b)
      (in_history-pruned gone (fired_of p.rule chosen) (four-live gone chosen nobody_live u) all)
  search-eq a (h ∷ hs) chosen b u = go (eqb (length chosen) p.head) (λ chosen b u. search-eq a hs chosen b u)
    where
      go : (x : Bool) → ((chosen : List FactId) (b : Binding) → every (Live gone) chosen
          → search store (pruned gone all) p r active hs chosen b ≡ search store all p r active hs chosen b)
          → ◌≡◌ {A = Found}
          (elim x [
            | true ↦ search store (pruned gone all) p r active hs (chosen ++ (active ∷ [])) b
            | false ↦ first_of (λ s. and_then (candidate store (pruned gone all) p r active h chosen b s)
                (λ c. search store (pruned gone all) p r active hs (chosen ++ (s.id ∷ [])) c)) store
          ])
          (elim x [
            | true ↦ search store all p r active hs (chosen ++ (active ∷ [])) b
            | false ↦ first_of
                (λ s. and_then (candidate store all p r active h chosen b s) (λ c. search store all p r active hs (chosen ++ (s.id ∷ [])) c)) store
          ])
      go true ih = ih (chosen ++ (active ∷ [])) b (every-snoc (Live gone) chosen active u a)
      go false ih =
          first_of-eq _ _ store
          (λ s m. and_then-eq (candidate store all p r active h chosen b s) _ _
          (λ c. ih (chosen ++ (s.id ∷ [])) c (every-snoc (Live gone) chosen s.id u (every-mem (λ (s : Stored). Live gone s.id) store live s m))))

  instance-eq : first_instance store (pruned gone all) p r active ≡ first_instance store all p r active
  unfolding first_instance
  instance-eq = go (stored_fact active store) (stored-is active store)
    where
      bound : Live gone active → (o : Option Binding) → from_active store (pruned gone all) p r active o ≡ from_active store all p r active o
      bound a None = refl
      bound a (Some b) = search-eq a (heads r) [] b tt

      go : (o : Option Fact) → OptionIs (λ f. Memᴰ (record { id = active; fact = f }) store) o
          → with_active store (pruned gone all) p r active o ≡ with_active store all p r active o
      go None m = refl
      go (Some f) m =
          bound (every-mem (λ (s : Stored). Live gone s.id) store live (record { id = active; fact = f }) m)
          (match_head (get_or (heads r) p.head no_head) f unbound)

-- ---- the two states, one step on

-- the state with another history
abbrev keeping : State → List Fired → State
keeping st all = record { stack = st.stack; store = st.store; history = all; next = st.next }

-- an identifier that was given before n
record Given (n : ℕ) (i : FactId) : Type 0 where
  from : 1 ≤ i.0
  below : i.0 < n

-- of a stored fact: none of those that are gone, and given
record Stays (n : ℕ) (gone : List FactId) (s : Stored) : Type 0 where
  live : Live gone s.id
  given : Given n s.id

-- all: the history that keeps all; gone: the facts that have been removed
record Held (st : State) (all : List Fired) (gone : List FactId) : Type 0 where
  begun : 1 ≤ st.next
  left : st.history ≡ pruned gone all
  stays : every (Stays st.next gone) st.store
  old : every (Given st.next) gone

-- what is none of the given identifiers is not among them
not-given : (n : ℕ) (i : FactId) (gone : List FactId) → every (Given n) gone → (Given n i → ⊥) → is_among i gone ≡ false
unfolding is_among
not-given n i [] u h = refl
not-given n i (j ∷ gone) u h =
    or-both (same_id i j) (is_among i gone)
    (ne_eqb i.0 j.0 (λ (e : i.0 ≡ j.0). h (record { from = omega (arith, e, u.0.from); below = omega (arith, e, u.0.below) })))
    (not-given n i gone u.1 h)

given-later : (n : ℕ) (i : FactId) → Given n i → Given (suc n) i
given-later n i g = record { from = g.from; below = omega (arith, g.below) }

-- the other engine's outcome follows this one's, unless this one has no room for its history
record Beside (st : State) (o : Outcome) (how : State → Outcome) : Type 0 where
  all : List Fired
  gone : List FactId
  held : Held st all gone
  same : o ≡ how (keeping st all)

abbrev Follows : Outcome → Outcome → Type 0
Follows (moves st) o = Beside st o moves
Follows (fires st) o = Beside st o fires
Follows fails o = o ≡ fails
Follows (stops n p) o = (n ≡ 7 → ⊥) → o ≡ stops n p

within-follows : (x : Bool) (n : RuleNumber) (st : State) (all : List Fired) (gone : List FactId) → Held st all gone
    → Follows (within_stack prunes x n st) (within_stack keeps_all x n (keeping st all))
within-follows true n st all gone k = go (leb (length st.history) history_room)
  where
    go : (y : Bool) → Follows (within_history y n st) (fires (keeping st all))
    go true = record { all = all; gone = gone; held = k; same = refl }
    go false = λ q. absurd (q refl)
within-follows false n st all gone k = λ q. refl

module _ (t : Table) (st : State) (all : List Fired) (old : List FactId) (k : Held st all old) (e : Entry) (es : List Entry) where
  nobody-live : Live old nobody
  nobody-live = not-given st.next nobody old k.old (λ g. omega (arith, g.from))

  all-live : every (λ (s : Stored). Live old s.id) st.store
  all-live = every-weaken (Stays st.next old) (λ (s : Stored). Live old s.id) (λ s q. q.live) st.store k.stays

  module _ (p : HeadPlace) (r : Rule) (i : FactId) (chosen : List FactId) (b : Binding) (c : Instance st.store st.history p r i chosen b) where
    chosen-are : (P : FactId → Type 0) → ((s : Stored) → Stays st.next old s → P s.id) → every P chosen
    chosen-are P h =
        subst (every P) c.chosen_ids
        (every-map P (λ (s : Stored). s.id) c.facts
        (every-weaken (λ s. Memᴰ s st.store) (λ (s : Stored). P s.id) (λ s m. h s (every-mem (Stays st.next old) st.store k.stays s m))
        c.facts c.stored))

    now : List FactId
    now = gone r chosen

    -- what is left of the store is none of what has gone now
    left-stays : every (Stays st.next (old ++ now)) (without now st.store)
    unfolding without
    left-stays =
        every-weaken (λ (s : Stored). Stays st.next old s × (not (is_among s.id now) ≡ true)) (Stays st.next (old ++ now))
        (λ s q. record {
          live = is_among-append s.id old now
              ∙ or-both (is_among s.id old) (is_among s.id now) q.0.live (not-true (is_among s.id now) q.1);
          given = q.0.given;
        })
        (keep (λ (s : Stored). not (is_among s.id now)) st.store)
        (every-keep (Stays st.next old) (λ (s : Stored). not (is_among s.id now)) st.store k.stays)

    names-none : names (four chosen) old ≡ false
    names-none = four-live old chosen nobody-live (chosen-are (Live old) (λ s q. q.live))

    -- a firing, of a rule with these removed heads
    fired-held : (removed : List Head) (stack : List Entry)
        → (gone' : List FactId) × Held (record {
          stack = stack;
          store = without now st.store;
          history = remembered removed (fired_of p.rule chosen) now st.history;
          next = st.next;
        }) (kept_all removed (fired_of p.rule chosen) now all) gone'
    unfolding pruned without fired_of now gone
    fired-held [] stack = (
      old,
      record {
        begun = k.begun;
        left = ap (λ (h : List Fired). h ++ (fired_of p.rule chosen ∷ [])) k.left
            ∙ sym (keep-snoc (λ (f : Fired). not (names f.ids old)) all (fired_of p.rule chosen) (ap not names-none));
        stays = every-kept (Stays st.next old) _ st.store k.stays;
        old = k.old;
      },
    )
    fired-held (h ∷ hs) stack = (
      old ++ now,
      record {
        begun = k.begun;
        left = ap (pruned now) k.left ∙ pruned-pruned old now all;
        stays = left-stays;
        old = every-append (Given st.next) old now k.old
            (every-drop (Given st.next) (length r.kept) chosen (chosen-are (Given st.next) (λ s q. q.given)));
      },
    )

  body-follows : (p : HeadPlace) (i : FactId) (chosen : List FactId) (b : Binding) → Instance st.store st.history p (rule_at t p.rule) i chosen b
      → (o : Option (List Entry))
      → Follows (with_body prunes t st e es p chosen o) (with_body keeps_all t (keeping st all) e es p chosen o)
  unfolding fired now
  body-follows p i chosen b c None = λ q. refl
  body-follows p i chosen b c (Some body) =
      let r : Rule = rule_at t p.rule in
      let stack : List Entry = body ++ pop_if (is_removed r p.head) e es in
      let h = fired-held p r i chosen b c r.removed stack in
      within-follows (leb (length stack) stack_room) p.rule _ (kept_all r.removed (fired_of p.rule chosen) (gone r chosen) all) h.0 h.1

  found-follows : (i : FactId) (j : ℕ) (p : HeadPlace) (o : Found) → FoundIs (Instance st.store st.history p (rule_at t p.rule) i) o
      → Follows (with_found prunes t st e es i j p o) (with_found keeps_all t (keeping st all) e es i j p o)
  unfolding advanced
  found-follows i j p nothing u = record {
    all = all;
    gone = old;
    held = record { begun = k.begun; left = k.left; stays = k.stays; old = k.old };
    same = refl;
  }
  found-follows i j p undefined_guard u = λ q. refl
  found-follows i j p (applies chosen b) u = body-follows p i chosen b u (body_entries b (rule_at t p.rule).body)

  same-instance : (p : HeadPlace) (r : Rule) (i : FactId) → first_instance st.store st.history p r i ≡ first_instance st.store all p r i
  same-instance p r i = ap (λ (h : List Fired). first_instance st.store h p r i) k.left ∙ instance-eq old all st.store nobody-live all-live p r i

  place-follows : (i : FactId) (j : ℕ) (o : Option HeadPlace) → Follows (at_place prunes t st e es i j o) (at_place keeps_all t (keeping st all) e es i j o)
  unfolding dropped
  place-follows i j None = record { all = all; gone = old; held = record { begun = k.begun; left = k.left; stays = k.stays; old = k.old }; same = refl }
  place-follows i j (Some p) =
      subst (λ (x : Found). Follows (at_place prunes t st e es i j (Some p)) (with_found keeps_all t (keeping st all) e es i j p x))
      (same-instance p (rule_at t p.rule) i)
      (found-follows i j p (first_instance st.store st.history p (rule_at t p.rule) i) (instance-is st.store st.history p (rule_at t p.rule) i))

  activate-follows : (f : Fact) (x : Bool) → Follows (activate st e es f x) (activate (keeping st all) e es f x)
  unfolding activated
  activate-follows f true = record {
    all = all;
    gone = old;
    held = record {
      begun = omega arith;
      left = k.left;
      stays = every-snoc (Stays (suc st.next) old) st.store _
          (every-weaken (Stays st.next old) (Stays (suc st.next) old)
          (λ s q. record { live = q.live; given = given-later st.next s.id q.given }) st.store k.stays)
          (record {
            live = not-given st.next (record { 0 = st.next }) old k.old (λ g. omega (arith, g.below));
            given = record { from = k.begun; below = omega arith };
          });
      old = every-weaken (Given st.next) (Given (suc st.next)) (given-later st.next) old k.old;
    };
    same = refl;
  }
  activate-follows f false = λ q. refl

  step-follows : (it : Item) → Follows (step_item t st e es it) (step_with keeps_all t (keeping st all) e es it)
  unfolding step_with
  step-follows (Waiting f) = activate-follows f (ltb (length st.store) store_room)
  step-follows (Active i j) = place-follows i j.0 (slice_get (places t e.symbol) (j.0 - 1))
  step-follows Fail = refl

-- ---- the two runs

module _ (t : Table) where
  abbrev Same : Ended → Ended → Type 0
  Same r q = (r.result.number ≡ 7 → ⊥) → q ≡ r

  abbrev SameFrom : ℕ → Type 0
  SameFrom limit = (c : Counts) (st : State) (all : List Fired) (gone : List FactId) → Held st all gone
      → Same (run_from t limit c st) (run_with keeps_all t limit c (keeping st all))

  next-same : (limit : ℕ) (c : Counts) (st : State) (all : List Fired) → SameFrom limit → (o q : Outcome) → Follows o q
      → Same (behind_step prunes t limit c st o) (behind_step keeps_all t limit c (keeping st all) q)
  unfolding ended_as
  next-same limit c st all ih (moves next) q u =
      λ h. ap (behind_step keeps_all t limit c (keeping st all)) u.same ∙ ih (stepped c) next u.all u.gone u.held h
  next-same limit c st all ih (fires next) q u =
      λ h. ap (behind_step keeps_all t limit c (keeping st all)) u.same ∙ ih (fired_once c) next u.all u.gone u.held h
  next-same limit c st all ih fails q u = λ h. ap (behind_step keeps_all t limit c (keeping st all)) u
  next-same limit c st all ih (stops n p) q u = λ h. ap (behind_step keeps_all t limit c (keeping st all)) (u h)

  from-same : (limit : ℕ) → SameFrom limit
  unfolding run_with ended_as
  from-same zero c st all gone d = go st.stack
    where
      go : (es : List Entry) → Same (elim es [ [] ↦ ended_as 0 0 c st | e ∷ es ↦ ended_as 2 0 c st ])
          (elim es [ [] ↦ ended_as 0 0 c (keeping st all) | e ∷ es ↦ ended_as 2 0 c (keeping st all) ])
      go [] = λ h. refl
      go (e ∷ es) = λ h. refl
  from-same (suc limit) c st all gone d = go (from-same limit) st.stack
    where
      go : SameFrom limit → (es : List Entry)
          → Same (elim es [ [] ↦ ended_as 0 0 c st | e ∷ es ↦ behind_step prunes t limit c st (step_item t st e es e.item) ])
          (elim es [
            | [] ↦ ended_as 0 0 c (keeping st all)
            | e ∷ es ↦ behind_step keeps_all t limit c (keeping st all) (step_with keeps_all t (keeping st all) e es e.item)
          ])
      go ih [] = λ h. refl
      go ih (e ∷ es) =
          next-same limit c st all ih (step_item t st e es e.item) (step_with keeps_all t (keeping st all) e es e.item)
          (step-follows t st all gone d e es e.item)

  -- Unless the pruned history is out of room, the two runs are the same: number, place, counts and store.
  pub pruning : (goal : List Fact) (limit : ℕ) → ((run t limit (start goal)).result.number ≡ 7 → ⊥) → keep_run t limit (start goal) ≡ run t limit (start goal)
  unfolding run keep_run start pruned keep
  pruning goal limit = from-same limit no_counts (start goal) [] [] (record { begun = omega arith; left = refl; stays = tt; old = tt })
