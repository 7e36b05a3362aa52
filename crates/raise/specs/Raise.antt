-- A raise: a rule has the symbol of its first removed head raised, by just as much as makes it lose weight.
use Rattle.std.specs.Prelude.{ℕ, suc, ◌+◌, ◌-◌, cond, List, [], ◌∷◌, leb, Option, Some, None}
use Rattle.model.specs.Table.{Head, Rule}
use Rattle.model.specs.Weights.{weight_in, heads_weight, body_weight}
use Rattle.raise.specs.declared.NewWeight.{NewWeight}

-- symbol s gets the weight x
abbrev pub to : ℕ → ℕ → Option NewWeight
to s x = Some (record { symbol = record { 0 = s }; weight = x })

-- the first of these heads has its symbol raised by d: not where there is none, and not above 255
unfoldable pub raise_by : List ℕ → ℕ → List Head → Option NewWeight
raise_by ws d [] = None
raise_by ws d (h ∷ hs) = cond (leb (weight_in ws h.symbol + d) 255) (to h.symbol.0 (weight_in ws h.symbol + d)) None

unfoldable pub raise_of : List ℕ → Rule → Option NewWeight
raise_of ws r = raise_by ws (suc (body_weight (weight_in ws) r.body) - heads_weight (weight_in ws) r.removed) r.removed
