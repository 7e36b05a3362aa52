-- How a run can end: with one of the numbers 0 to 7, and with a rule of the table as the place for 3, 4, 6 and 7 and 0 for every other. A step ends a
-- run only where the definition says so, and what it names there is the rule of a listed head. It asks nothing of the table, the state and the limit.
use Prim.Native.Nat.{ℕ, ◌-◌, ◌≤◌, ◌<◌}
use native.Mathlib.Omega.{arith}
use mathlib.Core.Path.{◌≡◌, refl}
use mathlib.Core.Bool.{Bool, true, false, ◌||◌}
use Rattle.std.specs.Prelude.{Option, Some, None, slice_get}
use mathlib.Core.List.{List}
use lib.Dec.{eqb, leb, ltb}
use lib.ListN.{length}
use Rattle.model.specs.declared.FactId.{FactId}
use Rattle.model.specs.declared.RuleNumber.{RuleNumber}
use Rattle.model.specs.declared.Fact.{Fact}
use Rattle.model.specs.declared.Item.{Item}
use Rattle.model.specs.declared.Item.TheVariants.{Waiting, Active, Fail}
use Rattle.model.specs.declared.Entry.{Entry}
use Rattle.model.specs.declared.HeadPlace.{HeadPlace}
use Rattle.model.specs.Limits.{store_room, stack_room}
use Rattle.model.specs.Table.{Table, rule_at, places}
use Rattle.model.specs.Search.{Found, nothing, undefined_guard, applies, first_instance}
use Rattle.model.specs.Steps.{State, Memory, prunes, body_entries, fired, Outcome, moves, fires, fails, stops, within_history, within_stack, with_body}
use Rattle.model.specs.Steps.{with_found, at_place, activate, step_with, step_item}
use Rattle.model.specs.Results.{Counts, no_counts}
use Rattle.model.specs.Run.{Ended, ended_as, stepped, fired_once, run_from, run}
use Rattle.model.proofs.Lists.{OptionIs, index-is}
use Rattle.model.proofs.Loop.{behind_step, every-run}
use Rattle.model.proofs.Decoded.{PlaceIn, places-in}

-- whether an ending's place is a "rule"
abbrev pub names_rule : ℕ → Bool
names_rule n = (eqb n 3 || eqb n 4) || (eqb n 6 || eqb n 7)

pub record EndsWith (t : Table) (n p : ℕ) : Type 0 where
  pub number : n ≤ 7
  pub rule : names_rule n ≡ true → p < length t.rules
  pub other : names_rule n ≡ false → p ≡ 0

module _ {t : Table} where
  pub at-rule : (n p : ℕ) → n ≤ 7 → names_rule n ≡ true → p < length t.rules → EndsWith t n p
  at-rule n p l e h = record { number = l; rule = λ q. h; other = λ q. absurd cc }

  pub at-none : (n : ℕ) → n ≤ 7 → names_rule n ≡ false → EndsWith t n 0
  at-none n l e = record { number = l; rule = λ q. absurd cc; other = λ q. refl }

  -- at any rate no rule behind the last
  pub place-few : {n p : ℕ} → EndsWith t n p → p ≤ length t.rules
  place-few {n} {p} k = go (names_rule n) refl
    where
      go : (b : Bool) → names_rule n ≡ b → p ≤ length t.rules
      go true e = omega (arith, k.rule e)
      go false e = omega (arith, k.other e)

-- ---- a step

-- an ending without a step is one of 3 to 7
abbrev pub StopsWith : Table → Outcome → Type 0
StopsWith t (moves st) = Unit {0}
StopsWith t (fires st) = Unit {0}
StopsWith t fails = Unit {0}
StopsWith t (stops n p) = (3 ≤ n) × EndsWith t n p

module _ (m : Memory) (t : Table) (st : State) (e : Entry) (es : List Entry) where
  history-ends : (b : Bool) (n : RuleNumber) (after : State) → n.0 < length t.rules → StopsWith t (within_history b n after)
  history-ends true n after h = tt
  history-ends false n after h = (omega arith, at-rule 7 n.0 (omega arith) refl h)

  stack-ends : (b : Bool) (n : RuleNumber) (after : State) → n.0 < length t.rules → StopsWith t (within_stack m b n after)
  stack-ends true n after h = history-ends (m.fits after.history) n after h
  stack-ends false n after h = (omega arith, at-rule 6 n.0 (omega arith) refl h)

  body-ends : (p : HeadPlace) (chosen : List FactId) → p.rule.0 < length t.rules → (o : Option (List Entry))
      → StopsWith t (with_body m t st e es p chosen o)
  body-ends p chosen h None = (omega arith, at-rule 4 p.rule.0 (omega arith) refl h)
  body-ends p chosen h (Some body) =
      let after : State = fired m st e es p (rule_at t p.rule) chosen body in
      stack-ends (leb (length after.stack) stack_room) p.rule after h

  found-ends : (i : FactId) (j : ℕ) (p : HeadPlace) → p.rule.0 < length t.rules → (o : Found) → StopsWith t (with_found m t st e es i j p o)
  found-ends i j p h nothing = tt
  found-ends i j p h undefined_guard = (omega arith, at-rule 3 p.rule.0 (omega arith) refl h)
  found-ends i j p h (applies chosen b) = body-ends p chosen h (body_entries b (rule_at t p.rule).body)

  place-ends : (i : FactId) (j k : ℕ) (o : Option HeadPlace) → OptionIs (λ p. PlaceIn t e.symbol p × (k < length (places t e.symbol))) o
      → StopsWith t (at_place m t st e es i j o)
  place-ends i j k None u = tt
  place-ends i j k (Some p) u = found-ends i j p u.0.rule_in (first_instance st.store st.history p (rule_at t p.rule) i)

  activate-ends : (f : Fact) (b : Bool) → StopsWith t (activate st e es f b)
  activate-ends f true = tt
  activate-ends f false = (omega arith, at-none 5 (omega arith) refl)

  pub step-ends : (it : Item) → StopsWith t (step_with m t st e es it)
  unfolding step_with
  step-ends (Waiting f) = activate-ends f (ltb (length st.store) store_room)
  step-ends (Active i j) =
      place-ends i j.0 (j.0 - 1) (slice_get (places t e.symbol) (j.0 - 1))
      (index-is (PlaceIn t e.symbol) (places t e.symbol) (j.0 - 1) (places-in t e.symbol))
  step-ends Fail = tt

-- ---- the run

module _ (t : Table) where
  abbrev Ends : Ended → Type 0
  Ends r = EndsWith t r.result.number r.result.place

  behind-ends : (limit : ℕ) (c : Counts) (st : State) → ((c : Counts) (st : State) → Ends (run_from t limit c st)) → (o : Outcome) → StopsWith t o
      → Ends (behind_step prunes t limit c st o)
  unfolding ended_as
  behind-ends limit c st ih (moves next) u = ih (stepped c) next
  behind-ends limit c st ih (fires next) u = ih (fired_once c) next
  behind-ends limit c st ih fails u = at-none 1 (omega arith) refl
  behind-ends limit c st ih (stops n p) u = u.1

  -- Every run, from any state.
  pub run-ends : (limit : ℕ) (st : State) → EndsWith t (run t limit st).result.number (run t limit st).result.place
  unfolding run ended_as
  run-ends limit st =
      every-run t (λ limit c st r. Ends r) (λ limit c st q. at-none 0 (omega arith) refl) (λ c st. at-none 2 (omega arith) refl)
      (λ limit c st e es q ih. behind-ends limit c st ih (step_item t st e es e.item) (step-ends prunes t st e es e.item))
      limit no_counts st
