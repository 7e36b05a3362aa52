-- `kinds::out_of_order` meets its contract.
use borrow.Author.Tests.{le-ltb}
use Rattle.records.proofs.Tests.{told}
use Rattle.model.specs.Records.{out_of_order}
use Rattle.records.proofs.kinds.out_of_order.Goals as goal

pub returns-then-stage-earliest : goal.returns-then-stage-earliest
unfolding out_of_order
returns-then-stage-earliest c = search told

pub returns-else-stage-earliest : goal.returns-else-stage-earliest
unfolding out_of_order
returns-else-stage-earliest c = rw (← c.earliest.ensures, ← c.latest.ensures, le-ltb _ _ c.if-stage-earliest.false)
