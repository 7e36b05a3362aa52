-- What document 01 chooses from a state ends in one way: two derivations with the same steps left, the same counts and the same state, whose store is
-- listed by rising identifier, end as the same. For each begins with a turn, and the state has one (Only); every turn leaves a store so listed.
use Prim.Native.Nat.{ℕ, zero, suc}
use mathlib.Core.Path.{◌≡◌, refl, sym, ◌∙◌, subst}
use mathlib.Core.List.{List, []}
use Rattle.model.specs.declared.Stored.{Stored}
use Rattle.model.specs.Table.{Table}
use Rattle.model.specs.Steps.{State, Outcome, moves as moves-, fires as fires-, fails as fails-, stops as stops-}
use Rattle.model.specs.Results.{Counts}
use Rattle.model.specs.Run.{Ended, ended_as, stepped, fired_once}
use Rattle.model.proofs.Kept.{Rising}
use Rattle.semantics.specs.Refined.{Solve}
use Rattle.semantics.specs.Chosen.{Listed, Moves, activates, drops, defaults, FiresFirst, simplifies, propagates}
use Rattle.semantics.specs.Chosen.{Chosen, done, fails, spent, stops, moves, fires}
use Rattle.semantics.proofs.Only.{Turn, ended, failed, stopped, moved, fired, outcome_of, one-turn}

module _ (t : Table) where
  -- ---- what is listed stays listed

  abbrev ListedBehind : Outcome → Type 0
  ListedBehind (moves- τ) = Listed τ
  ListedBehind (fires- τ) = Listed τ
  ListedBehind fails- = Unit {0}
  ListedBehind (stops- n p) = Unit {0}

  listed-same : (σ τ : State) → Listed σ → τ.store ≡ σ.store → τ.next ≡ σ.next → Listed τ
  listed-same σ τ l e n = subst (λ (m : ℕ). Rising 1 m τ.store) (sym n) (subst (λ (S : List Stored). Rising 1 σ.next S) (sym e) l)

  moves-listed : (σ τ : State) → Listed σ → Moves t σ τ → Listed τ
  moves-listed σ τ l (activates s) = s.listed
  moves-listed σ τ l (drops s) = listed-same σ τ l s.store s.next
  moves-listed σ τ l (defaults s) = listed-same σ τ l s.step.store s.step.next

  fires-listed : (σ τ : State) → FiresFirst t σ τ → Listed τ
  fires-listed σ τ (simplifies s u l) = l
  fires-listed σ τ (propagates s u l) = l

  turn-listed : (σ : State) → Listed σ → (x : Turn t σ) → ListedBehind (outcome_of t σ x)
  turn-listed σ l (ended e) = tt
  turn-listed σ l (failed τ s) = tt
  turn-listed σ l (stopped n p s) = tt
  turn-listed σ l (moved τ s) = moves-listed σ τ l s
  turn-listed σ l (fired τ s r) = fires-listed σ τ s

  -- ---- a derivation, as its first turn and the rest

  abbrev Rest : ℕ → Counts → State → Outcome → Ended → Type 0
  Rest left c σ (moves- τ) r = Chosen t left (stepped c) τ r
  Rest left c σ (fires- τ) r = Chosen t left (fired_once c) τ r
  Rest left c σ fails- r = r ≡ ended_as 1 0 (stepped c) σ
  Rest left c σ (stops- n p) r = r ≡ ended_as n p c σ

  after-fail : (c : Counts) (σ τ : State) → Solve t σ τ → ended_as 1 0 c τ ≡ ended_as 1 0 c σ
  unfolding ended_as
  after-fail c σ τ s = λ i. ended_as 1 0 c (record { stack = []; store = s.store i; history = []; next = s.next i })

  turn : {left : ℕ} {c : Counts} {σ : State} {r : Ended} → Chosen t (suc left) c σ r → (x : Turn t σ) × Rest left c σ (outcome_of t σ x) r
  turn (done e) = (ended e, refl)
  turn (fails {c = c} {σ = σ} {τ = τ} s) = (failed τ s, after-fail (stepped c) σ τ s)
  turn (stops {n = n} {p = p} s) = (stopped n p s, refl)
  turn (moves {τ = τ} s d) = (moved τ s, d)
  turn (fires {τ = τ} s r d) = (fired τ s r, d)

  -- ---- one end

  module _ (left : ℕ) (c : Counts) (σ : State) (r r' : Ended) (ih : (c : Counts) (σ : State) → Listed σ → Chosen t left c σ r → Chosen t left c σ r' → r ≡ r')
    where
      rest-one : (o : Outcome) → ListedBehind o → Rest left c σ o r → Rest left c σ o r' → r ≡ r'
      rest-one (moves- τ) l d d' = ih (stepped c) τ l d d'
      rest-one (fires- τ) l d d' = ih (fired_once c) τ l d d'
      rest-one fails- l d d' = d ∙ sym d'
      rest-one (stops- n p) l d d' = d ∙ sym d'

  -- with no step left
  one-spent : {c : Counts} {σ : State} {r r' : Ended} → Chosen t 0 c σ r → Chosen t 0 c σ r' → r ≡ r'
  one-spent (done e) (done f) = refl
  one-spent (done e) (spent f) = absurd (f e)
  one-spent (spent e) (done f) = absurd (e f)
  one-spent (spent e) (spent f) = refl

  pub one-end : (left : ℕ) (c : Counts) (σ : State) (r r' : Ended) → Listed σ → Chosen t left c σ r → Chosen t left c σ r' → r ≡ r'
  one-end zero c σ r r' l d d' = one-spent d d'
  one-end (suc left) c σ r r' l d d' =
      let x = turn d in
      let y = turn d' in
      rest-one left c σ r r' (λ c σ. one-end left c σ r r') (outcome_of t σ x.0) (turn-listed σ l x.0) x.1
      (subst (λ (o : Outcome). Rest left c σ o r') (sym (one-turn t σ l x.0 y.0)) y.1)
