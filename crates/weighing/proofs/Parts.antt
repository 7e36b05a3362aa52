-- The weights and the facts of a goal, one after the other: what a turn of each loop finds or adds.
use Prim.Native.Nat.{ℕ, zero, suc, ◌+◌, ◌*◌, ◌/◌, ◌<◌, ◌≤◌}
use mathlib.Core.Path.{◌≡◌, refl, sym, ap, ◌∙◌}
use mathlib.Core.List.{List, ◌∷◌}
use native.Mathlib.Omega.{arith}
use lib.ListN.{length, get_or, drop, drop_of_length-le}
use lib.Seq.{drop-cons}
use Rattle.std.specs.Prelude.{Option, Some, None, MatchOption}
use Rattle.std.specs.List.{AllWithin, HoldsAt}
use Rattle.model.specs.declared.Symbol.{Symbol}
use Rattle.model.specs.Goal.{fact_at, facts_from, goal_of}
use Rattle.model.specs.Table.{symbol_at}
use Rattle.model.specs.Weights.{goal_weight, first_zero}
use Rattle.rule_weights.specs.Views.{Counted, rows_weight}

-- ---- the first zero weight

zero-later : (i : ℕ) (l : List ℕ) (x : ℕ) → (x ≡ 0 → ⊥) → first_zero i (x ∷ l) ≡ first_zero (suc i) l
unfolding first_zero
zero-later i l zero d = absurd (d refl)
zero-later i l (suc x) d = refl

module _ (l : List ℕ) where
  -- the weights from i on answer for all, where none before is zero
  zero-from : (i : ℕ) → i ≤ length l → ((j : ℕ) → j < i → get_or l j 0 ≡ 0 → ⊥) → first_zero 0 l ≡ first_zero i (drop i l)
  zero-from zero h e = refl
  zero-from (suc i) h e =
      zero-from i (omega arith) (λ j b. e j (omega arith))
      ∙ ap (first_zero i) (drop-cons l i 0 (omega arith))
      ∙ zero-later i (drop (suc i) l) (get_or l i 0) (e i (omega arith))

  pub zero-at : (i : ℕ) → i < length l → get_or l i 0 ≡ 0 → ((j : ℕ) → j < i → get_or l j 0 ≡ 0 → ⊥) → Some (record { 0 = i }) ≡ first_zero 0 l
  unfolding first_zero
  zero-at i h z e = sym (zero-from i (omega arith) e ∙ rw (drop-cons l i 0 h, z))

  pub zero-never : ((j : ℕ) → j < length l → get_or l j 0 ≡ 0 → ⊥) → None ≡ first_zero 0 l
  unfolding first_zero
  zero-never e = sym (zero-from (length l) (omega arith) e ∙ rw (drop_of_length-le l {i = length l} (omega arith)))

-- what a search for the first zero finds
abbrev pub FirstZero : List ℕ → Option ℕ → Type 0
FirstZero l o =
    MatchOption o (AllWithin (λ x. x ≡ 0 → ⊥) l 0 (length l)) (λ i. (i < length l) × HoldsAt (λ x. x ≡ 0) l i × AllWithin (λ x. x ≡ 0 → ⊥) l 0 i)

pub zero-found : (l : List ℕ) (o : Option ℕ) → FirstZero l o → MatchOption o (None ≡ first_zero 0 l) (λ i. Some (record { 0 = i }) ≡ first_zero 0 l)
zero-found l None f = zero-never l (λ j h. f j 0 (omega arith) h)
zero-found l (Some i) f = zero-at l i f.0 (f.1 0) (λ j h. f.2 j 0 (omega arith) h)

-- ---- a goal's facts

goal-rows : (w : Symbol → ℕ) (g : List ℕ) (p n : ℕ) → goal_weight w (facts_from g p n) ≡ rows_weight w g p 18 n
unfolding goal_weight facts_from fact_at rows_weight
goal-rows w g p zero = refl
goal-rows w g p (suc n) = ap (λ (m : ℕ). w (symbol_at g (p + 1)) + m) (goal-rows w g (p + 18) n)

pub goal-counted : (w : Symbol → ℕ) (g : List ℕ) → length g / 18 ≤ 64 → {m : ℕ} → Counted (rows_weight w g 0 18 (length g / 18)) (length g / 18 * 255) m
    → Counted (goal_weight w (goal_of g)) 16320 m
unfolding goal_of
goal-counted w g h c = record { same = c.same ∙ sym (goal-rows w g 0 (length g / 18)); few = omega (arith, c.few, h) }
