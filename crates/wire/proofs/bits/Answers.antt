-- `wire::bits` meets its contract.
use Rattle.std.proofs.Common.{ap, ◌∙◌, w32, of_z, to_z-of_z}
use Rattle.wire.proofs.Laws.{bits-are}
use Rattle.wire.proofs.bits.Goals as goal

pub returns : goal.returns
returns c = c.cast_unsigned.ensures ∙ ap (of_z w32) (to_z-of_z c.ranges.v) ∙ bits-are c.args.v
