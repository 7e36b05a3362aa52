-- Slots and expressions, as their bytes say.
use Rattle.std.specs.Prelude.{ℕ, ◌+◌, List, cond, get_or, ltb, eqb}
use Rattle.model.specs.declared.Slot.{Slot}
use Rattle.model.specs.declared.Slot.TheVariants.{Unused, Constant, Variable, Bad}
use Rattle.model.specs.declared.Expression.{Expression}
use Rattle.wire.specs.Wire.{u32_at, signed_of}

-- "A slot is a tag and four value bytes: tag 0 unused, value zero; 1 constant; 2 variable, value 0..15."
unfoldable pub slot_by : ℕ → ℕ → Slot
slot_by tag value =
    cond (eqb tag 0) (cond (eqb value 0) Unused Bad)
    (cond (eqb tag 1) (Constant (signed_of value))
    (cond (eqb tag 2) (cond (ltb value 16) (Variable value) Bad)
    Bad))

unfoldable pub slot_at : List ℕ → ℕ → Slot
slot_at t p = slot_by (get_or t p 0) (u32_at t (p + 1))

-- "An expression is an operation byte and two slots"
unfoldable pub expression_at : List ℕ → ℕ → Expression
expression_at t p = record { operation = get_or t p 0; left = slot_at t (p + 1); right = slot_at t (p + 6) }
