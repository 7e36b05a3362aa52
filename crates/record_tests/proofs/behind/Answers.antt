-- `record_tests::behind` meets its contract: one arm a kind.
use Rattle.model.specs.Reading.{behind}
use Rattle.record_tests.proofs.behind.Goals as goal

pub returns-in-NextSymbol : goal.returns-in-NextSymbol
unfolding behind
returns-in-NextSymbol c = rw (c.in-NextSymbol.is, c.with_symbol-next.ensures)

pub returns-in-NextRule : goal.returns-in-NextRule
unfolding behind
returns-in-NextRule c = rw (c.in-NextRule.is, c.with_rule-next.ensures)

pub returns-in-KeptHead : goal.returns-in-KeptHead
unfolding behind
returns-in-KeptHead c = rw (c.in-KeptHead.is, c.with_part-next.ensures, c.with_kept.ensures)

pub returns-in-RemovedHead : goal.returns-in-RemovedHead
unfolding behind
returns-in-RemovedHead c = rw (c.in-RemovedHead.is, c.with_part-next-in-RemovedHead.ensures, c.with_removed.ensures)

pub returns-in-Comparison : goal.returns-in-Comparison
unfolding behind
returns-in-Comparison c = rw (c.in-Comparison.is, c.with_part-next-in-Comparison.ensures, c.with_guard.ensures)

pub returns-in-BodyFact : goal.returns-in-BodyFact
unfolding behind
returns-in-BodyFact c = rw (c.in-BodyFact.is, c.with_part-next-in-BodyFact.ensures, c.with_item.ensures)

pub returns-in-BodyFail : goal.returns-in-BodyFail
unfolding behind
returns-in-BodyFail c = rw (c.in-BodyFail.is, c.with_part-next-in-BodyFail.ensures, c.with_item-in-BodyFail.ensures)

pub returns-in-EndOfTable : goal.returns-in-EndOfTable
unfolding behind
returns-in-EndOfTable c = rw c.in-EndOfTable.is
