-- A run of a good table ends in 3 or 4 for no other cause than a zero divisor or a number that does not fit: step by step. Where the search meets an
-- undefined guard, or a body without entries, it has a complete match (first-verdict), and Bound says the cause. For the search to say so, the
-- stored identifiers must rise, which every step keeps.
use Prim.Native.Nat.{ℕ, ◌-◌, ◌<◌}
use native.Mathlib.Omega.{arith}
use mathlib.Core.Path.{◌≡◌, refl}
use mathlib.Core.Bool.{Bool, true, false}
use Rattle.std.specs.Prelude.{Option, Some, None, slice_get}
use mathlib.Core.List.{List, []}
use lib.Dec.{leb, ltb}
use lib.ListN.{length}
use Rattle.model.specs.declared.FactId.{FactId}
use Rattle.model.specs.declared.RuleNumber.{RuleNumber}
use Rattle.model.specs.declared.Fact.{Fact}
use Rattle.model.specs.declared.Item.{Item}
use Rattle.model.specs.declared.Item.TheVariants.{Waiting, Active, Fail}
use Rattle.model.specs.declared.Entry.{Entry}
use Rattle.model.specs.declared.Stored.{Stored}
use Rattle.model.specs.declared.Binding.{Binding}
use Rattle.model.specs.declared.HeadPlace.{HeadPlace}
use Rattle.std.specs.Prelude.{Ok}
use Rattle.model.specs.Refusals.{number_of}
use Rattle.model.specs.Limits.{store_room, stack_room}
use Rattle.model.specs.Reading.{read_of}
use Rattle.model.specs.Table.{Rule, Table, heads, table_of, rule_at, places}
use Rattle.model.specs.Search.{Found, nothing, undefined_guard, applies, first_instance}
use Rattle.model.specs.Steps.{State, start, activated, advanced, dropped, fired, without, body_entries, Memory, prunes, Outcome, moves, fires, fails, stops}
use Rattle.model.specs.Steps.{within_history, within_stack, activate, with_body, with_found, at_place, step_with, step_item}
use Rattle.model.specs.Results.{Counts, no_counts}
use Rattle.model.specs.Run.{Ended, ended_as, stepped, fired_once, run_from, run}
use Rattle.model.specs.Goal.{goal_of}
use Rattle.model.specs.Calls.{RunOutput, output_of, run_of}
use Rattle.model.proofs.Lists.{every-mem}
use Rattle.model.proofs.Decoded.{PlaceIn, places-in}
use Rattle.model.proofs.Kept.{Rising, rising-snoc, rising-keep}
use Rattle.model.proofs.Loop.{behind_step, every-run}
use Rattle.model.proofs.Results.{run-cases}
use Rattle.semantics.specs.Instances.{Matching}
use Rattle.semantics.specs.Values.{GuardLacks, BodyLacks, Causes, EndCauses}
use Rattle.semantics.specs.Refined.{Trying, rule_tried}
use Rattle.semantics.specs.Chosen.{First}
use Rattle.semantics.proofs.Found.{Verdict}
use Rattle.semantics.proofs.Occurrence.{index-mem, first-verdict}
use Rattle.semantics.proofs.Bound.{guard-cause, body-cause}

-- ---- over the chosen relation: the first instance that is left

module _ (t : List ℕ) (good : (read_of t).verdict ≡ Ok tt) (σ : State) (a : Trying (table_of t) σ.stack) (facts : List Stored) (θ : Binding) where
  -- where the run stops with 3
  pub first-guard-cause : First (table_of t) σ a None facts θ → GuardLacks θ (rule_tried (table_of t) a).guards
  first-guard-cause f = guard-cause t good a.place facts θ σ.store a.id f.matching f.guard

  -- where it stops with 4
  pub first-body-cause : First (table_of t) σ a (Some true) facts θ → body_entries θ (rule_tried (table_of t) a).body ≡ None
      → BodyLacks θ (rule_tried (table_of t) a).body
  first-body-cause f e = body-cause t good a.place facts θ σ.store a.id f.matching e

-- ---- over the definition's steps

-- an ending with another number
other-causes : (t : Table) (store : List Stored) (n p : ℕ) → (n ≡ 3 → ⊥) → (n ≡ 4 → ⊥) → Causes t store n p
other-causes t store n p a b = record { three = λ e. absurd (a e); four = λ e. absurd (b e) }

-- the stored identifiers rise
abbrev Rises : State → Type 0
Rises st = Rising 1 st.next st.store

-- what a step comes to
abbrev Caused : Table → State → Outcome → Type 0
Caused t st (moves next) = Rises next
Caused t st (fires next) = Rises next
Caused t st fails = Unit {0}
Caused t st (stops n p) = Causes t st.store n p

module _ (t : List ℕ) (good : (read_of t).verdict ≡ Ok tt) where
  abbrev T : Table
  T = table_of t

  module _ (m : Memory) (st : State) (rises : Rises st) (e : Entry) (es : List Entry) where
    activate-caused : (f : Fact) (x : Bool) → Caused T st (activate st e es f x)
    unfolding activated
    activate-caused f true = rising-snoc 1 st.next st.store _ refl rises
    activate-caused f false = other-causes T st.store 5 0 (λ (q : ◌≡◌ {A = ℕ} 5 3). omega arith) (λ (q : ◌≡◌ {A = ℕ} 5 4). omega arith)

    fired-rises : (p : HeadPlace) (chosen : List FactId) (body : List Entry) → Rises (fired m st e es p (rule_at T p.rule) chosen body)
    unfolding fired without
    fired-rises p chosen body = rising-keep _ 1 st.next st.store rises

    history-caused : (x : Bool) (n : RuleNumber) (s : State) → Rises s → Caused T st (within_history x n s)
    history-caused true n s r = r
    history-caused false n s r = other-causes T st.store 7 n.0 (λ (q : ◌≡◌ {A = ℕ} 7 3). omega arith) (λ (q : ◌≡◌ {A = ℕ} 7 4). omega arith)

    stack-caused : (x : Bool) (n : RuleNumber) (s : State) → Rises s → Caused T st (within_stack m x n s)
    stack-caused true n s r = history-caused (m.fits s.history) n s r
    stack-caused false n s r = other-causes T st.store 6 n.0 (λ (q : ◌≡◌ {A = ℕ} 6 3). omega arith) (λ (q : ◌≡◌ {A = ℕ} 6 4). omega arith)

    module _ (i : FactId) (j : ℕ) (p : HeadPlace) (inside : p.head < length (heads (rule_at T p.rule))) where
      abbrev r : Rule
      r = rule_at T p.rule

      found-caused : (f : Found) → Verdict st.history p r (Matching st.store p r i) [] f → Caused T st (with_found m T st e es i j p f)
      unfolding advanced
      found-caused nothing v = rises
      found-caused undefined_guard v = record {
        three = λ q. record {
          head = p;
          rule = refl;
          active = i;
          facts = v.0;
          θ = v.1;
          matching = v.2.way;
          guard = v.2.guard;
          cause = guard-cause t good p v.0 v.1 st.store i v.2.way v.2.guard;
        };
        four = λ (q : ◌≡◌ {A = ℕ} 3 4). absurd (omega arith);
      }
      found-caused (applies chosen b) v = go (body_entries b r.body) refl
        where
          go : (c : Option (List Entry)) → body_entries b r.body ≡ c → Caused T st (with_body m T st e es p chosen c)
          go None q = record {
            three = λ (n : ◌≡◌ {A = ℕ} 4 3). absurd (omega arith);
            four = λ n. record {
              head = p;
              rule = refl;
              active = i;
              facts = v.0;
              θ = b;
              matching = v.1.way;
              guard = v.1.guard;
              cause = body-cause t good p v.0 b st.store i v.1.way q;
            };
          }
          go (Some body) q =
              let s : State = fired m st e es p r chosen body in
              stack-caused (leb (length s.stack) stack_room) p.rule s (fired-rises p chosen body)

    place-caused : (i : FactId) (j : ℕ) (o : Option HeadPlace) → slice_get (places T e.symbol) (j - 1) ≡ o → Caused T st (at_place m T st e es i j o)
    unfolding dropped
    place-caused i j None q = rises
    place-caused i j (Some p) q =
        let ps : List HeadPlace = places T e.symbol in
        let inside = (every-mem (PlaceIn T e.symbol) ps (places-in T e.symbol) p (index-mem ps (j - 1) p q)).head_in in
        found-caused i j p inside (first_instance st.store st.history p (rule_at T p.rule) i)
        (first-verdict st.store st.history p (rule_at T p.rule) st.next rises inside i)

    -- a step stops with 3 or 4 only so
    pub step-caused : (it : Item) → Caused T st (step_with m T st e es it)
    unfolding step_with
    step-caused (Waiting f) = activate-caused f (ltb (length st.store) store_room)
    step-caused (Active i j) = place-caused i j.0 (slice_get (places T e.symbol) (j.0 - 1)) refl
    step-caused Fail = tt

  -- ---- the run

  abbrev All : ℕ → Counts → State → Ended → Type 0
  All limit c st r = Rises st → EndCauses T r

  module _ (limit : ℕ) (c : Counts) (st : State) (ih : (c : Counts) (st : State) → All limit c st (run_from T limit c st)) where
    turn-caused : (o : Outcome) → Caused T st o
        → EndCauses T (behind_step prunes T limit c st o)
    unfolding ended_as
    turn-caused (moves next) u = ih (stepped c) next u
    turn-caused (fires next) u = ih (fired_once c) next u
    turn-caused fails u = other-causes T st.store 1 0 (λ (q : ◌≡◌ {A = ℕ} 1 3). omega arith) (λ (q : ◌≡◌ {A = ℕ} 1 4). omega arith)
    turn-caused (stops n p) u = u

  from-caused : (limit : ℕ) (c : Counts) (st : State) → All limit c st (run_from T limit c st)
  unfolding ended_as
  from-caused =
      every-run T All
      (λ limit c st e r. other-causes T st.store 0 0 (λ (q : ◌≡◌ {A = ℕ} 0 3). omega arith) (λ (q : ◌≡◌ {A = ℕ} 0 4). omega arith))
      (λ c st r. other-causes T st.store 2 0 (λ (q : ◌≡◌ {A = ℕ} 2 3). omega arith) (λ (q : ◌≡◌ {A = ℕ} 2 4). omega arith))
      (λ limit c st e es q ih r. turn-caused limit c st ih (step_item T st e es e.item) (step-caused prunes st r e es e.item))

  -- every run of a good table, with the facts that it has stored at the end
  pub run-caused : (goal : List Fact) (limit : ℕ) → EndCauses T (run T limit (start goal))
  unfolding run start
  run-caused goal limit = from-caused limit no_counts (start goal) (omega arith)

-- ---- from bytes: every call of a run, with the facts that are stored where it ends

pub call-caused : (t g : List ℕ) (limit : ℕ) (buffer : List ℕ)
    → Causes (table_of t) (run (table_of t) limit (start (goal_of g))).store (run_of t g limit buffer).result.number (run_of t g limit buffer).result.place
unfolding output_of
call-caused t g limit buffer =
    let stored : List Stored = (run (table_of t) limit (start (goal_of g))).store in
    run-cases (λ (o : RunOutput). Causes (table_of t) stored o.result.number o.result.place) t g limit buffer
    (λ r low high near. other-causes (table_of t) stored (number_of r.reason) r.place (λ q. omega (arith, low, q)) (λ q. omega (arith, low, q)))
    (λ k. run-caused t k.table (goal_of g) limit)
