-- What a probe asks, as the definition says it.
use Rattle.std.specs.Prelude.{◌≡◌, Bool, true, false, cond, List, [], ◌∷◌, pos, get_or, ℤ, Option, Some, None}
use Rattle.numbers.specs.Numbers.{equal}
use Rattle.model.specs.declared.Fact.{Fact}
use Rattle.model.specs.declared.Stored.{Stored}
use Rattle.model.specs.declared.Binding.{Binding}
use Rattle.model.specs.declared.Slot.{Slot}
use Rattle.model.specs.declared.Slot.TheVariants.{Unused, Constant, Variable, Bad}
use Rattle.model.specs.Guards.{variable_value}
use Rattle.model.specs.Table.{Head, same_symbol}
use Rattle.matching.specs.declared.Asked.{Asked}
use Rattle.matching.specs.declared.Probe.{Probe}

-- the value that an argument must have to match a slot, where that is known before the match
unfoldable pub settled_of : Binding → Slot → Option ℤ
settled_of b Unused = None
settled_of b (Constant z) = Some z
settled_of b (Variable v) = variable_value b v
settled_of b Bad = None

-- a probe asks for the head's symbol, and at a place, if it asks for one, for the value that the head's slot there settles
pub record Probing (h : Head) (b : Binding) (r : Probe) : Type 0 where
  pub symbol_is : r.symbol ≡ h.symbol
  pub settles : (a : Asked) → r.asked ≡ Some a → settled_of b (get_or h.slots a.place Unused) ≡ Some a.value

abbrev pub shows : Option Asked → Fact → Bool
shows None f = true
shows (Some a) f = equal a.value (get_or f.arguments a.place (pos 0))

unfoldable pub passes_of : Probe → Fact → Bool
passes_of r f = cond (same_symbol r.symbol f.symbol) (shows r.asked f) false

-- what is left of the facts from the first one on that passes
unfoldable pub from_passing : Probe → List Stored → List Stored
from_passing r [] = []
from_passing r (s ∷ ss) = elim (passes_of r s.fact) [ true ↦ s ∷ ss | false ↦ from_passing r ss ]
