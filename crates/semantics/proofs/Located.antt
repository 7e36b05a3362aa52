-- Every step of the definition but Fail is a transition of figure 6 at one location: Activate is (Activate), Drop (Drop), Default (Suspend),
-- Simplify (Remove) and Propagate (Keep). Each follows from the transition of the refined semantics that the step is. The history H of the figure
-- holds what (Keep) puts down; (Remove) has no test of it and needs none: the definition's history holds no rule with a removed head.
use Prim.Native.Nat.{ℕ, suc, ◌+◌, ◌-◌, ◌≤◌, ◌<◌}
use native.Mathlib.Omega.{arith}
use mathlib.Core.Path.{◌≡◌, refl, ap, subst}
use mathlib.Core.Bool.{true}
use mathlib.Core.Logic.{◌⊎◌, inl, inr}
use mathlib.Core.List.Memᴰ
use mathlib.Core.List.{List, [], ◌∷◌, Memᴰ}
use lib.ListN.{length, length-append}
use Rattle.model.specs.declared.FactId.{FactId}
use Rattle.model.specs.declared.Symbol.{Symbol}
use Rattle.model.specs.declared.RuleNumber.{RuleNumber}
use Rattle.model.specs.declared.Fact.{Fact}
use Rattle.model.specs.declared.Item.{Item}
use Rattle.model.specs.declared.Item.TheVariants.{Waiting, Active, Fail}
use Rattle.model.specs.declared.Entry.{Entry}
use Rattle.model.specs.declared.Stored.{Stored}
use Rattle.model.specs.declared.Binding.{Binding}
use Rattle.model.specs.Table.{Table, rule_at, places}
use Rattle.model.specs.declared.Fired.{Fired}
use Rattle.model.specs.Search.{fired_of, in_history}
use Rattle.model.specs.Steps.{State, start, prunes, Outcome, moves, fires, fails, stops, step_item}
use Rattle.model.specs.Results.{Counts, no_counts}
use Rattle.model.specs.Run.{Ended, ended_as, stepped, fired_once, run_from, run}
use Rattle.model.proofs.Every.{every, every-weaken}
use Rattle.model.proofs.Lists.{every-mem}
use Rattle.model.proofs.Sound.{ids_of}
use Rattle.model.proofs.Loop.{behind_step, every-run}
use Rattle.model.proofs.Kept.{rising-within}
use Rattle.model.proofs.Decoded.{PlaceIn, places-in}
use Rattle.semantics.specs.Instances.{Matching, firing}
use Rattle.semantics.specs.Refined.{Trying, rule_tried}
use Rattle.semantics.specs.Chosen.{Moves, activates, drops, defaults, FiresFirst, simplifies, propagates}
use Rattle.semantics.specs.Located.{Local, OtherItem, Fresh, LocalStep, flush, activate, remove, keep, suspend, drops as drop-, LocalDerivation}
use Rattle.semantics.specs.Located.{stays, goes}
use Rattle.semantics.proofs.Occurrence.{index-mem}
use Rattle.semantics.proofs.Following.{Noted, ItemIs, EntryIs, Whole, Keeps, Follows, known-here, in-history}
use Rattle.semantics.proofs.Steps.{FewHeads, seen, start-follows, Taken, stopped-number, Anything, step-taken}

-- the localized state: nothing waits in the buffer
abbrev pub local : State → List Fired → Local
local st H = record { U = []; G = st.stack; S = st.store; H = H }

abbrev pub LocallyTaken : Table → State → List Fired → Outcome → Type 0
LocallyTaken t st H (moves next) = (H' : List Fired) × Follows t next H' × LocalStep t (local st H) (local next H')
LocallyTaken t st H (fires next) = (H' : List Fired) × Follows t next H' × LocalStep t (local st H) (local next H')
LocallyTaken t st H fails = Unit {0}
LocallyTaken t st H (stops n p) = 3 ≤ n

-- a goal is flushed from the buffer to the stack
pub flush-start : (t : Table) (f : Fact) (goal : List Fact) → LocalStep t (record { U = f ∷ goal; G = []; S = []; H = [] }) (local (start (f ∷ goal)) [])
unfolding start
flush-start t f goal = flush (record { nonempty = λ e. cc; idle = refl; U = refl; G = refl; S = refl; H = refl })

-- ---- a rule with a removed head is not in the definition's history

module _ (t : Table) where
  -- a head place in the removed part
  removed-some : {A : List Entry} (a : Trying t A) → length (rule_tried t a).kept ≤ a.place.head → (rule_tried t a).removed ≡ [] → ⊥
  removed-some a l e =
      let p
      = every-mem (PlaceIn t a.symbol) (places t a.symbol) (places-in t a.symbol) a.place
      (index-mem (places t a.symbol) (a.j - 1) a.place a.occurs) in
      omega (arith, p.head_in, length-append (rule_tried t a).kept (rule_tried t a).removed, ap length e)

  module _ (st : State) (T : List Fired) (k : Follows t st T) where
    keeps-fired : (n : RuleNumber) (is : List FactId) → in_history (fired_of n is) st.history ≡ true → (rule_at t n).removed ≡ []
    unfolding fired_of
    keeps-fired n is e = every-mem (Keeps t) st.history k.keeps (fired_of n is) (in-history (fired_of n is) st.history e)

    removed-fresh : (a : Trying t st.stack) (facts : List Stored) (θ : Binding) → length (rule_tried t a).kept ≤ a.place.head
        → Matching st.store a.place (rule_tried t a) a.id facts θ → Memᴰ (firing a.place facts) T → ⊥
    removed-fresh a facts θ l m n = removed-some a l (keeps-fired a.place.rule (ids_of facts) (known-here t st T k a.place a.id facts θ m n))

    -- the next identifier is fresh
    fresh-next : Fresh (record { 0 = st.next }) (local st T)
    fresh-next = record {
      stored = every-weaken (λ (s : Stored). (1 ≤ s.id.0) × (s.id.0 < st.next)) (λ (s : Stored). s.id.0 ≡ st.next → ⊥)
          (λ s g e. omega (arith, g.1, e)) st.store (rising-within 1 st.next st.store k.rising);
      active = every-weaken (EntryIs st.next) (λ (e : Entry). OtherItem (record { 0 = st.next }) e.item) (λ e u. other e.symbol e.item u)
          st.stack k.entries;
      fired = every-weaken (Whole t st.next) (λ (u : Fired). every (λ (i : FactId). i.0 ≡ st.next → ⊥) u.ids)
          (λ u w. every-weaken (λ (i : FactId). i.0 < st.next) (λ (i : FactId). i.0 ≡ st.next → ⊥) (λ i l e. omega (arith, l, e)) u.ids w.given) T
          k.whole;
    }
      where
        other : (s : Symbol) (i : Item) → ItemIs st.next s i → OtherItem (record { 0 = st.next }) i
        other s (Waiting f) u = tt
        other s (Active i j) u = λ e. omega (arith, u, e)
        other s Fail u = tt

    moves-locally : (next : State) (T' : List Fired) → Moves t (seen st T) (seen next T') → LocalStep t (local st T) (local next T')
    moves-locally next T' (activates s) =
        activate (record {
          c = s.step.c;
          under = s.step.under;
          d = record { 0 = st.next };
          top = s.step.top;
          fresh = fresh-next;
          U = refl;
          G = s.step.stack;
          S = s.step.store;
          H = s.step.history;
        })
    moves-locally next T' (drops s) =
        drop- (record { symbol = s.symbol; d = s.id; i = s.j; top = s.top; absent = s.absent; U = refl; S = s.store; H = s.history })
    moves-locally next T' (defaults s) = suspend (record {
      tried = s.step.tried;
      no_remove = λ l facts θ e. s.step.none facts θ (record { enabled = e; fresh = removed-fresh s.step.tried facts θ l e.matching });
      no_keep = λ l. s.step.none;
      U = refl;
      G = s.step.stack;
      S = s.step.store;
      H = s.step.history;
    })

  -- what (Remove) does not put down is not missed
  forgets : (st : State) (u : Fired) (T : List Fired) → ((rule_at t u.rule).removed ≡ [] → ⊥) → Follows t st (u ∷ T) → Follows t st T
  unfolding fired_of
  forgets st u T r k = record {
    rising = k.rising;
    entries = k.entries;
    keeps = k.keeps;
    noted = all st.history k.noted k.keeps;
    accounted = k.accounted.1;
    whole = k.whole.1;
  }
    where
      one : (d v : Fired) → (v ≡ u) ⊎ Memᴰ v T → d ≡ fired_of v.rule v.ids → Keeps t d → Noted T d
      one d v (inl e) q w = absurd (r (subst (λ (f : Fired). (rule_at t f.rule).removed ≡ []) e (subst (λ (f : Fired). (rule_at t f.rule).removed ≡ []) q w)))
      one d v (inr m) q w = (v, m, q)

      all : (ds : List Fired) → every (Noted (u ∷ T)) ds → every (Keeps t) ds → every (Noted T) ds
      all [] n w = tt
      all (d ∷ ds) n w = (one d n.0.0 (Memᴰ.cases_cons n.0.1) n.0.2 w.0, all ds n.1 w.1)

  fires-locally : (st next : State) (T T' : List Fired) → Follows t next T' → FiresFirst t (seen st T) (seen next T')
      → (H' : List Fired) × Follows t next H' × LocalStep t (local st T) (local next H')
  fires-locally st next T T' k (simplifies s u l) = (
    T,
    forgets next (firing s.tried.place s.facts) T (removed-some s.tried s.removed) (subst (Follows t next) s.history k),
    remove (record {
      tried = s.tried;
      removed = s.removed;
      facts = s.facts;
      φ = s.θ;
      B = s.C;
      enabled = s.applies.enabled;
      fires = s.fires;
      U = refl;
      G = s.stack;
      H = refl;
    }),
  )
  fires-locally st next T T' k (propagates s u l) = (
    T',
    k,
    keep (record {
      tried = s.tried;
      kept = s.kept;
      facts = s.facts;
      φ = s.θ;
      B = s.C;
      applies = s.applies;
      fires = s.fires;
      U = refl;
      G = s.stack;
      H = s.history;
    }),
  )

module _ (t : Table) (few : FewHeads t) (st : State) (H : List Fired) (k : Follows t st H) (e : Entry) (es : List Entry) (q : st.stack ≡ e ∷ es) where
  pub step-local : LocallyTaken t st H (step_item t st e es e.item)
  step-local = go (step_item t st e es e.item) (step-taken t few st H k e es q e.item refl)
    where
      go : (o : Outcome) → Taken t Anything st H prunes o → LocallyTaken t st H o
      go (moves next) u = (u.0, u.1, moves-locally t st H k next u.0 u.3)
      go (fires next) u = fires-locally t st next H u.1.T' u.1.follows u.1.fires
      go fails u = tt
      go (stops n p) u = stopped-number t Anything st H prunes n p u

-- ---- a run that ends in 0 is a whole derivation of the figure

-- from σ, behind what c counts
pub record LocallyDone (t : Table) (σ : Local) (c : Counts) (r : Ended) : Type 0 where
  pub more : ℕ
  pub last : Local
  pub derivation : LocalDerivation t σ more last
  pub steps : r.result.steps ≡ c.steps + more
  pub buffer : last.U ≡ []
  pub idle : last.G ≡ []
  pub store : r.store ≡ last.S

module _ (t : Table) (few : FewHeads t) where
  abbrev All : ℕ → Counts → State → Ended → Type 0
  All limit c st r = (H : List Fired) → Follows t st H → r.result.number ≡ 0 → LocallyDone t (local st H) c r

  -- one transition before the others
  before : (σ τ : Local) (c d : Counts) (r : Ended) → d.steps ≡ suc c.steps → LocalStep t σ τ → LocallyDone t τ d r → LocallyDone t σ c r
  before σ τ c d r e s x = record {
    more = suc x.more;
    last = x.last;
    derivation = goes s x.derivation;
    steps = omega (arith, x.steps);
    buffer = x.buffer;
    idle = x.idle;
    store = x.store;
  }

  turn-local : (limit : ℕ) (c : Counts) (st : State) (H : List Fired) → ((c : Counts) (st : State) → All limit c st (run_from t limit c st))
      → (o : Outcome) → LocallyTaken t st H o
      → (behind_step prunes t limit c st o).result.number ≡ 0 → LocallyDone t (local st H) c (behind_step prunes t limit c st o)
  unfolding ended_as
  turn-local limit c st H ih (moves next) u z =
      before (local st H) (local next u.0) c (stepped c) (run_from t limit (stepped c) next) refl u.2 (ih (stepped c) next u.0 u.1 z)
  turn-local limit c st H ih (fires next) u z =
      before (local st H) (local next u.0) c (fired_once c) (run_from t limit (fired_once c) next) refl u.2 (ih (fired_once c) next u.0 u.1 z)
  turn-local limit c st H ih fails u z = absurd (omega (arith, z))
  turn-local limit c st H ih (stops n p) u z = absurd (omega (arith, z, u))

  from-local : (limit : ℕ) (c : Counts) (st : State) → All limit c st (run_from t limit c st)
  unfolding ended_as
  from-local =
      every-run t All
      (λ limit c st e H d z. record { more = 0; last = local st H; derivation = stays; steps = omega arith; buffer = refl; idle = e; store = refl })
      (λ c st H d z. absurd (omega (arith, z)))
      (λ limit c st e es q ih H d z. turn-local limit c st H ih (step_item t st e es e.item) (step-local t few st H d e es q) z)

  pub run-local : (goal : List Fact) (limit : ℕ) → (run t limit (start goal)).result.number ≡ 0
      → LocallyDone t (local (start goal) []) no_counts (run t limit (start goal))
  unfolding run
  run-local goal limit z = from-local limit no_counts (start goal) [] (start-follows t goal) z

-- from where it ends there is no transition
pub local-final : (t : Table) (σ τ : Local) → σ.U ≡ [] → σ.G ≡ [] → LocalStep t σ τ → ⊥
local-final t σ τ u g (flush s) = s.nonempty u
local-final t σ τ u g (activate s) = let e = s.top in cc
local-final t σ τ u g (remove s) = let e = s.tried.top in cc
local-final t σ τ u g (keep s) = let e = s.tried.top in cc
local-final t σ τ u g (suspend s) = let e = s.tried.top in cc
local-final t σ τ u g (drop- s) = let e = s.top in cc
