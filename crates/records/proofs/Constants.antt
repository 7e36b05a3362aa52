-- A slot with tag 1 holds a signed number, which goes through the 32 bits of a machine number unchanged.
use Prim.Native.Nat.{ℕ, ◌<◌}
use mathlib.Core.Path.{◌≡◌, ap}
use lib.IntN.{ℤ}
use mir.Facts.{to_z-of_z}
use mir.Syntax.{w32}
use mir.Val.{to_z, of_z}
use Rattle.wire.specs.Wire.{signed_of}
use Rattle.wire.proofs.Laws.{signed-fits}
use Rattle.model.specs.Slots.{slot_by}
use Rattle.model.specs.declared.Slot.TheVariants.{Constant}

pub constant-slot : (tag value : ℕ) {z : ℤ} → z ≡ signed_of value → value < 4294967296 → tag ≡ 1 → Constant (to_z w32 (of_z w32 z)) ≡ slot_by tag value
unfolding slot_by
constant-slot tag value e f h = rw (e, h) (ap Constant (to_z-of_z (signed-fits value f)))
