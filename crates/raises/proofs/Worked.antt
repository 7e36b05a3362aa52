-- Two tables, worked: weights are found for `a <=> b, b`, and none for `a, b <=> a, a`, though 1 and 2 make it lose weight.
use Prim.Native.Nat.{ℕ}
use mathlib.Core.Path.{◌≡◌, refl}
use mathlib.Core.List.{List, [], ◌∷◌}
use Rattle.std.specs.Prelude.{None}
use Rattle.model.specs.Table.{Head, Rule, BodyItem, body_fact}
use Rattle.model.specs.Weights.{weight_in, heads_weight, body_weight, first_heavy}
use Rattle.raise.specs.Raise.{raise_by, raise_of}
use Rattle.raises.specs.Search.{found, stopped, raise_then, heavy_then, search_from, search_of}

abbrev pub head : ℕ → Head
head s = record { symbol = record { 0 = s }; slots = [] }

abbrev pub fact : ℕ → BodyItem
fact s = body_fact (record { 0 = s }) []

abbrev pub simplifies : List Head → List BodyItem → List Rule
simplifies hs is = record { kept = []; removed = hs; guards = []; body = is } ∷ []

pub raised : search_of (simplifies (head 0 ∷ []) (fact 1 ∷ fact 1 ∷ [])) 2 ≡ found (3 ∷ 1 ∷ [])
unfolding search_of search_from heavy_then raise_then raise_of raise_by first_heavy heads_weight body_weight
raised = refl

pub missed : search_of (simplifies (head 0 ∷ head 1 ∷ []) (fact 0 ∷ fact 0 ∷ [])) 2 ≡ stopped 0 (128 ∷ 1 ∷ [])
unfolding search_of search_from heavy_then raise_then raise_of raise_by first_heavy heads_weight body_weight
missed = refl

pub though-light : first_heavy (weight_in (1 ∷ 2 ∷ [])) 0 (simplifies (head 0 ∷ head 1 ∷ []) (fact 0 ∷ fact 0 ∷ [])) ≡ None
unfolding first_heavy heads_weight body_weight
though-light = refl
