-- `slots::slot_at` meets its contract.
use Rattle.model.specs.Slots.{slot_at}
use Rattle.records.proofs.slots.slot_at.Goals as goal

pub returns : goal.returns
unfolding slot_at
returns c = cc
