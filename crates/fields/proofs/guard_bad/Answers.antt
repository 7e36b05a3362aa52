-- `fields::guard_bad` meets its contract: one return a part.
use Rattle.records.proofs.Tests.{chain}
use Rattle.model.specs.Fields.{guard_bad}
use Rattle.fields.proofs.guard_bad.Goals as goal

pub returns-then-table-at-gt5 : goal.returns-then-table-at-gt5
unfolding guard_bad
returns-then-table-at-gt5 c = search chain

pub returns-then-expression_bad : goal.returns-then-expression_bad
unfolding guard_bad
returns-then-expression_bad c = search chain

pub returns-else-expression_bad : goal.returns-else-expression_bad
unfolding guard_bad
returns-else-expression_bad c = search chain
