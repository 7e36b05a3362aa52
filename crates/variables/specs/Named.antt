-- The marks of the variables that stand in the heads of the rule that is being read.
use Rattle.std.specs.Prelude.{ℕ, zero, suc, ◌+◌, ◌*◌, ◌<◌, ◌≤◌, ◌≡◌, List, Bool, true, false, length, get_or, set}
use Rattle.model.specs.Slots.{slot_at}
use Rattle.model.specs.Variables.{in_heads}
use Rattle.model.specs.declared.RuleShape.{RuleShape}
use Rattle.model.specs.declared.Slot.{Slot}
use Rattle.model.specs.declared.Slot.TheVariants.{Unused, Constant, Variable, Bad}

-- a mark for each variable 0..15: whether one of the heads of the rule has it
pub record Named (t : List ℕ) (rule : RuleShape) (named : List Bool) : Type 0 where
  pub sized : length named ≡ 16
  pub marks : (v : ℕ) → v < 16 → get_or named v false ≡ in_heads t (rule.start + 1) rule.heads v

-- what a good record at `at` makes of the rule that is being read: it has no head, or a head more, which is this record, or the same heads
pub data Follows (t : List ℕ) (at : ℕ) (before after : RuleShape) : Type 0 where
  headless : after.heads ≡ 0 → Follows t at before after
  head : after.heads ≡ before.heads + 1 → after.start ≡ before.start → at ≡ before.start + 1 + 22 * before.heads → at + 22 ≤ length t
      → Follows t at before after
  same : after.heads ≡ before.heads → after.start ≡ before.start → Follows t at before after

-- the marks with the variable of a slot, and with those of the head at p
unfoldable pub marked : Slot → List Bool → List Bool
marked Unused named = named
marked (Constant z) named = named
marked (Variable v) named = set named v true
marked Bad named = named

-- the marks with the variables of the first k slots of the head at p
unfoldable pub marked_first : List ℕ → ℕ → ℕ → List Bool → List Bool
marked_first t p zero named = named
marked_first t p (suc k) named = marked (slot_at t (p + 2 + 5 * k)) (marked_first t p k named)

unfoldable pub marked_head : List ℕ → ℕ → List Bool → List Bool
marked_head t p named = marked (slot_at t (p + 17)) (marked (slot_at t (p + 12)) (marked (slot_at t (p + 7)) (marked (slot_at t (p + 2)) named)))
