-- The slot of a table that a token is, where it is one.
use Rattle.std.specs.Prelude.{ℕ, ◌≡◌, Option, Some, None, List, ◌∷◌}
use Rattle.wire.specs.Wire.{bytes4}
use Rattle.grammar.specs.Tree.{Term}
use Rattle.grammar.specs.Encode.{term_bytes}
use Rattle.assembly.specs.declared.slots.Slot.{Slot}

abbrev pub slot_bytes : Slot → List ℕ
slot_bytes s = s.tag ∷ bytes4 s.value

abbrev pub SlotIs : Option Term → Option Slot → Type 0
SlotIs None None = Unit {0}
SlotIs None (Some s) = ⊥
SlotIs (Some a) None = ⊥
SlotIs (Some a) (Some s) = slot_bytes s ≡ term_bytes a
