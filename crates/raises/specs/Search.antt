-- A search for weights with which every rule loses weight. All weights begin at 1. While a rule does not lose weight, the first such rule has the
-- symbol of its first removed head raised (`raise_of`).
use Rattle.std.specs.Prelude.{ℕ, zero, suc, List, get_or, set, replicate, Option, Some, None}
use Rattle.model.specs.declared.RuleNumber.{RuleNumber}
use Rattle.model.specs.Table.{Rule, no_rule}
use Rattle.model.specs.Weights.{weight_in, first_heavy}
use Rattle.raise.specs.declared.NewWeight.{NewWeight}
use Rattle.raise.specs.Raise.{raise_of}

-- how a search ends, with the weights as they stand: every rule loses weight, or this one does not and cannot be raised
pub data Sought : Type 0 where
  found : List ℕ → Sought
  stopped : ℕ → List ℕ → Sought

-- by the first rule that does not lose weight
unfoldable pub sought_as : List ℕ → Option RuleNumber → Sought
sought_as ws None = found ws
sought_as ws (Some r) = stopped r.0 ws

unfoldable pub raise_then : List ℕ → ℕ → (List ℕ → Sought) → Option NewWeight → Sought
raise_then ws r more (Some x) = more (set ws x.symbol.0 x.weight)
raise_then ws r more None = stopped r ws

unfoldable pub heavy_then : List Rule → List ℕ → (List ℕ → Sought) → Option RuleNumber → Sought
heavy_then rules ws more None = found ws
heavy_then rules ws more (Some r) = raise_then ws r.0 more (raise_of ws (get_or rules r.0 no_rule))

-- at most n raises
unfoldable pub search_from : ℕ → List Rule → List ℕ → Sought
search_from zero rules ws = sought_as ws (first_heavy (weight_in ws) 0 rules)
search_from (suc n) rules ws = heavy_then rules ws (search_from n rules) (first_heavy (weight_in ws) 0 rules)

-- 32 weights can be raised by 254 each, one at a time: never too few (`search-settles`)
abbrev pub most_raises : ℕ
most_raises = 8128

unfoldable pub search_of : List Rule → ℕ → Sought
search_of rules symbols = search_from most_raises rules (replicate symbols 1)
