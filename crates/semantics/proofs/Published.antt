-- What document 01 chooses is a derivation of the refined semantics: as many transitions as steps, as many of them firings as firings, to a last state
-- with the store and the next identifier of the result, of which the ending's number and place say what they mean. One that ends in 0 ends in a state
-- with an empty stack, from which there is no transition; one that ends in 1 in a failed state, from which there is none either.
use Prim.Native.Nat.{ℕ, suc, ◌+◌, ◌-◌}
use native.Mathlib.Omega.{arith}
use mathlib.Core.Path.{◌≡◌, refl, ◌∙◌, ap, subst}
use mathlib.Core.List.{List, [], ◌∷◌}
use Rattle.model.specs.declared.Fact.{Fact}
use Rattle.model.specs.declared.Entry.{Entry}
use Rattle.model.specs.Table.{Table}
use Rattle.model.specs.Steps.{State, waiting, start}
use Rattle.model.specs.Results.{Counts, no_counts}
use Rattle.model.specs.Run.{Ended, ended_as, stepped, fired_once}
use Rattle.semantics.specs.Refined.{Config, holds, failed, Step, solve, activate, drops, simplify, propagate, default, Derivation, stays, goes}
use Rattle.semantics.specs.Refined.{firing_in, firings_in, Solve}
use Rattle.semantics.specs.Chosen.{Moves, activates, drops as drops-, defaults, FiresFirst, simplifies, propagates}
use Rattle.semantics.specs.Chosen.{Stops, Chosen, done, fails, spent, stops, moves, fires}
use Rattle.semantics.proofs.Steps.{stops-number}

module _ (t : Table) where
  -- ---- final states

  module _ (σ : State) (e : σ.stack ≡ []) where
    stack-empty : (x : Entry) (xs : List Entry) → σ.stack ≡ x ∷ xs → ⊥
    stack-empty x xs q = cc

    pub done-final : (κ : Config) → Step t (holds σ) κ → ⊥
    done-final κ (solve s) = stack-empty s.c _ s.top
    done-final κ (activate s) = stack-empty (waiting s.c) s.under s.top
    done-final κ (drops s) = stack-empty _ _ s.top
    done-final κ (simplify s) = stack-empty _ _ s.tried.top
    done-final κ (propagate s) = stack-empty _ _ s.tried.top
    done-final κ (default s) = stack-empty _ _ s.tried.top

  pub failed-final : (σ : State) (κ : Config) → Step t (failed σ) κ → ⊥
  failed-final σ κ s = elim s [ ]

-- ---- what a run's ending says of the last state

abbrev pub state_of : Config → State
state_of (holds σ) = σ
state_of (failed σ) = σ

-- by its number and place
pub data EndsIn (t : Table) : ℕ → ℕ → Config → Type 0 where
  empty : {σ : State} → σ.stack ≡ [] → EndsIn t 0 0 (holds σ)
  failure : {σ : State} → EndsIn t 1 0 (failed σ)
  limited : {σ : State} → (σ.stack ≡ [] → ⊥) → EndsIn t 2 0 (holds σ)
  stopped : {σ : State} {n p : ℕ} → Stops t σ n p → EndsIn t n p (holds σ)

module _ (t : Table) (σ : State) where
  ends-empty : (n p : ℕ) → EndsIn t n p (holds σ) → n ≡ 0 → σ.stack ≡ []
  ends-empty n p (empty e) z = e
  ends-empty n p (limited e) z = absurd (omega (arith, z))
  ends-empty n p (stopped s) z = absurd (omega (arith, stops-number t σ n p s, z))

  ends-not-failed : (n p : ℕ) → EndsIn t n p (holds σ) → n ≡ 1 → ⊥
  ends-not-failed n p (empty e) z = omega (arith, z)
  ends-not-failed n p (limited e) z = omega (arith, z)
  ends-not-failed n p (stopped s) z = omega (arith, stops-number t σ n p s, z)

  ends-failed : (n p : ℕ) → EndsIn t n p (failed σ) → n ≡ 1
  ends-failed n p failure = refl

-- from σ, behind what c counts
pub record Derives (t : Table) (σ : State) (c : Counts) (r : Ended) : Type 0 where
  pub more : ℕ
  pub last : Config
  pub derivation : Derivation t (holds σ) more last
  pub steps : r.result.steps ≡ c.steps + more
  pub firings : r.result.firings ≡ c.firings + firings_in derivation
  pub store : r.store ≡ (state_of last).store
  pub identifiers : r.result.identifiers ≡ (state_of last).next - 1
  pub ends : EndsIn t r.result.number r.result.place last

module _ (t : Table) where
  -- ---- what document 01 chooses is a derivation of the published relation

  -- one that ends at once
  at-once : (σ : State) (n p : ℕ) (c : Counts) → EndsIn t n p (holds σ) → Derives t σ c (ended_as n p c σ)
  unfolding ended_as firings_in
  at-once σ n p c u = record {
    more = 0;
    last = holds σ;
    derivation = stays;
    steps = omega arith;
    firings = omega arith;
    store = refl;
    identifiers = refl;
    ends = u;
  }

  -- one that fails
  at-fail : (σ τ : State) (c : Counts) → Solve t σ τ → Derives t σ c (ended_as 1 0 (stepped c) τ)
  unfolding ended_as firings_in firing_in
  at-fail σ τ c s = record {
    more = 1;
    last = failed τ;
    derivation = goes (solve s) stays;
    steps = omega arith;
    firings = omega arith;
    store = refl;
    identifiers = refl;
    ends = failure;
  }

  -- one transition before the others
  before : (σ τ : State) (c d : Counts) (r : Ended) (s : Step t (holds σ) (holds τ)) → d.steps ≡ suc c.steps → d.firings ≡ firing_in s + c.firings
      → Derives t τ d r → Derives t σ c r
  unfolding firings_in
  before σ τ c d r s e f x = record {
    more = suc x.more;
    last = x.last;
    derivation = goes s x.derivation;
    steps = omega (arith, x.steps);
    firings = omega (arith, x.firings);
    store = x.store;
    identifiers = x.identifiers;
    ends = x.ends;
  }

  moves-derive : (σ τ : State) (c : Counts) (r : Ended) → Moves t σ τ → Derives t τ (stepped c) r → Derives t σ c r
  unfolding firing_in
  moves-derive σ τ c r (activates s) d = before σ τ c (stepped c) r (activate s.step) refl (omega arith) d
  moves-derive σ τ c r (drops- s) d = before σ τ c (stepped c) r (drops s) refl (omega arith) d
  moves-derive σ τ c r (defaults s) d = before σ τ c (stepped c) r (default s.step) refl (omega arith) d

  fires-derive : (σ τ : State) (c : Counts) (r : Ended) → FiresFirst t σ τ → Derives t τ (fired_once c) r → Derives t σ c r
  unfolding firing_in
  fires-derive σ τ c r (simplifies s u l) d = before σ τ c (fired_once c) r (simplify s) refl (omega arith) d
  fires-derive σ τ c r (propagates s u l) d = before σ τ c (fired_once c) r (propagate s) refl (omega arith) d

  pub chosen-derives : {left : ℕ} {c : Counts} {σ : State} {r : Ended} → Chosen t left c σ r → Derives t σ c r
  chosen-derives (done {c = c} {σ = σ} e) = at-once σ 0 0 c (empty e)
  chosen-derives (fails {c = c} {σ = σ} {τ = τ} s) = at-fail σ τ c s
  chosen-derives (spent {c = c} {σ = σ} e) = at-once σ 2 0 c (limited e)
  chosen-derives (stops {c = c} {σ = σ} {n = n} {p = p} s) = at-once σ n p c (stopped s)
  chosen-derives (moves {c = c} {σ = σ} {τ = τ} {r = r} s d) = moves-derive σ τ c r s (chosen-derives d)
  chosen-derives (fires {c = c} {σ = σ} {τ = τ} {r = r} s f d) = fires-derive σ τ c r s (chosen-derives d)

module _ (t : Table) where
  -- ---- the endings 0 and 1: a whole derivation

  pub record Done (goal : List Fact) (r : Ended) : Type 0 where
    pub σ : State
    pub derivation : Derivation t (holds (start goal)) r.result.steps (holds σ)
    pub firings : r.result.firings ≡ firings_in derivation
    pub empty : σ.stack ≡ []
    pub store : r.store ≡ σ.store
    pub final : (κ : Config) → Step t (holds σ) κ → ⊥

  pub record Failed (goal : List Fact) (r : Ended) : Type 0 where
    pub σ : State
    pub derivation : Derivation t (holds (start goal)) r.result.steps (failed σ)
    pub firings : r.result.firings ≡ firings_in derivation
    pub store : r.store ≡ σ.store
    pub final : (κ : Config) → Step t (failed σ) κ → ⊥

  module _ (goal : List Fact) (r : Ended) (d : Derives t (start goal) no_counts r) where
    abbrev Counted : ℕ → Config → Type 0
    Counted n κ = (x : Derivation t (holds (start goal)) n κ) × (r.result.firings ≡ firings_in x)

    whole : (κ : Config) → d.last ≡ κ → Counted r.result.steps κ
    whole κ e =
        let n : d.more ≡ r.result.steps = omega (arith, d.steps) in
        subst (λ (m : ℕ). Counted m κ) n (subst (Counted d.more) e (d.derivation, omega (arith, d.firings)))

    pub done-is : r.result.number ≡ 0 → (κ : Config) → d.last ≡ κ → Done goal r
    done-is z (holds σ) e =
        let u = ends-empty t σ r.result.number r.result.place (subst (EndsIn t r.result.number r.result.place) e d.ends) z in
        record {
          σ = σ;
          derivation = (whole (holds σ) e).0;
          firings = (whole (holds σ) e).1;
          empty = u;
          store = d.store ∙ ap (λ (κ : Config). (state_of κ).store) e;
          final = done-final t σ u;
        }
    done-is z (failed σ) e =
        absurd (omega (
          arith,
          ends-failed t σ r.result.number r.result.place (subst (EndsIn t r.result.number r.result.place) e d.ends),
          z,
        ))

    pub failed-is : r.result.number ≡ 1 → (κ : Config) → d.last ≡ κ → Failed goal r
    failed-is z (holds σ) e =
        absurd (ends-not-failed t σ r.result.number r.result.place (subst (EndsIn t r.result.number r.result.place) e d.ends) z)
    failed-is z (failed σ) e = record {
      σ = σ;
      derivation = (whole (failed σ) e).0;
      firings = (whole (failed σ) e).1;
      store = d.store ∙ ap (λ (κ : Config). (state_of κ).store) e;
      final = failed-final t σ;
    }
