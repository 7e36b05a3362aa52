-- `fields::expression_bad` meets its contract: one return a part.
use Rattle.records.proofs.Tests.{told}
use Rattle.model.specs.Fields.{expression_bad}
use Rattle.fields.proofs.expression_bad.Goals as goal

pub returns-then-top-operation : goal.returns-then-top-operation
unfolding expression_bad
returns-then-top-operation c = search told

pub returns-then-slot_bad : goal.returns-then-slot_bad
unfolding expression_bad
returns-then-slot_bad c = search told

pub returns-else-slot_bad : goal.returns-else-slot_bad
unfolding expression_bad
returns-else-slot_bad c = search told
