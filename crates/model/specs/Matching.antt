-- Matching a head with a fact: "with equal symbol, constants and repeated variables".
use Rattle.std.specs.Prelude.{ℕ, Bool, true, false, cond, List, [], ◌∷◌, ℤ, pos, ltb, get_or, set, Option, Some, None}
use Rattle.numbers.specs.Numbers.{equal}
use Rattle.model.specs.declared.Fact.{Fact}
use Rattle.model.specs.declared.Binding.{Binding}
use Rattle.model.specs.declared.Slot.{Slot}
use Rattle.model.specs.declared.Slot.TheVariants.{Unused, Constant, Variable, Bad}
use Rattle.model.specs.Table.{Head, same_symbol}

-- what a match comes to: nothing, or the binding made larger
abbrev pub bound_if : Bool → Binding → Option Binding
bound_if true b = Some b
bound_if false b = None

unfoldable pub with_variable : Binding → ℕ → ℤ → Binding
with_variable b v z = record { values = set b.values v (Some z) }

-- a variable, one of 0..15, that is bound must have this value; one that is not gets it
abbrev pub match_value : Option ℤ → Binding → ℕ → ℤ → Option Binding
match_value (Some x) b v z = bound_if (equal x z) b
match_value None b v z = Some (with_variable b v z)

unfoldable pub match_variable : Binding → ℕ → ℤ → Option Binding
match_variable b v z = cond (ltb v 16) (match_value (get_or b.values v None) b v z) None

unfoldable pub match_slot : Slot → ℤ → Binding → Option Binding
match_slot Unused z b = Some b
match_slot (Constant c) z b = bound_if (equal c z) b
match_slot (Variable v) z b = match_variable b v z
match_slot Bad z b = None

-- one slot more
unfoldable pub and_slot : Slot → ℤ → Option Binding → Option Binding
and_slot s z None = None
and_slot s z (Some b) = match_slot s z b

unfoldable pub match_slots : List Slot → List ℤ → Option Binding → Option Binding
match_slots [] zs m = m
match_slots (s ∷ ss) [] m = m
match_slots (s ∷ ss) (z ∷ zs) m = match_slots ss zs (and_slot s z m)

-- "four arguments": what stands at a fact's four places
abbrev pub arguments : Fact → List ℤ
arguments f = get_or f.arguments 0 (pos 0) ∷ get_or f.arguments 1 (pos 0) ∷ get_or f.arguments 2 (pos 0) ∷ get_or f.arguments 3 (pos 0) ∷ []

unfoldable pub match_head : Head → Fact → Binding → Option Binding
match_head h f b = cond (same_symbol h.symbol f.symbol) (match_slots h.slots (arguments f) (Some b)) None
