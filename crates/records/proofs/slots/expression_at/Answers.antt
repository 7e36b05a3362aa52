-- `slots::expression_at` meets its contract.
use Rattle.model.specs.Slots.{expression_at}
use Rattle.records.proofs.slots.expression_at.Goals as goal

pub returns : goal.returns
unfolding expression_at
returns c = rw (c.slot_at-left.ensures, c.slot_at-right.ensures)
