-- Weighing: what rules and goals weigh, and the step bound of the mission's third demand.
use Rattle.std.specs.Prelude.{ℕ, zero, suc, max, ◌+◌, ◌*◌, true, false, List, [], ◌∷◌, ltb, length, get_or, Option, Some, None}
use Rattle.model.specs.declared.Symbol.{Symbol}
use Rattle.model.specs.declared.RuleNumber.{RuleNumber}
use Rattle.model.specs.declared.Fact.{Fact}
use Rattle.model.specs.Table.{Head, Rule, Table, BodyItem, body_fact, body_fail, places}

-- what a symbol weighs. A symbol of a good table or goal is declared and has a weight, so that the 1 is never used
abbrev pub weight_in : List ℕ → Symbol → ℕ
weight_in weights s = get_or weights s.0 1

module _ (w : Symbol → ℕ) where
  unfoldable pub goal_weight : List Fact → ℕ
  goal_weight [] = 0
  goal_weight (f ∷ fs) = w f.symbol + goal_weight fs

  unfoldable pub heads_weight : List Head → ℕ
  heads_weight [] = 0
  heads_weight (h ∷ hs) = w h.symbol + heads_weight hs

  -- "fail weighs nothing"
  unfoldable pub body_weight : List BodyItem → ℕ
  body_weight [] = 0
  body_weight (body_fact s es ∷ is) = w s + body_weight is
  body_weight (body_fail ∷ is) = body_weight is

-- how many facts a body has
unfoldable pub body_facts : List BodyItem → ℕ
body_facts [] = 0
body_facts (body_fact s es ∷ is) = suc (body_facts is)
body_facts (body_fail ∷ is) = body_facts is

-- M: the most head places of any symbol below n
unfoldable pub most_places : Table → ℕ → ℕ
most_places t zero = 0
most_places t (suc n) = max (length (places t (record { 0 = n }))) (most_places t n)

-- B: the most facts in any body
unfoldable pub most_facts : List Rule → ℕ
most_facts [] = 0
most_facts (r ∷ rs) = max (body_facts r.body) (most_facts rs)

-- (G + B·W)·(M + 2) + W + 1
unfoldable pub step_bound : ℕ → ℕ → ℕ → ℕ → ℕ
step_bound G B W M = (G + B * W) * (M + 2) + W + 1

-- 41: "first zero weight", counted from k
unfoldable pub first_zero : ℕ → List ℕ → Option Symbol
first_zero k [] = None
first_zero k (zero ∷ ws) = Some (record { 0 = k })
first_zero k (suc n ∷ ws) = first_zero (suc k) ws

-- 42: "first rule that does not lose weight", counted from k: its removed heads do not weigh more than its body
unfoldable pub first_heavy : (Symbol → ℕ) → ℕ → List Rule → Option RuleNumber
first_heavy w k [] = None
first_heavy w k (r ∷ rs) =
    elim (ltb (body_weight w r.body) (heads_weight w r.removed)) [ true ↦ first_heavy w (suc k) rs | false ↦ Some (record { 0 = k }) ]
