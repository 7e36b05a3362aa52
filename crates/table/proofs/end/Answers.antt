-- `end` meets its contract.
use Rattle.records.proofs.Tests.{chain}
use Rattle.model.specs.Reading.{ended}
use Rattle.table.proofs.end.Goals as goal

pub returns-then-p-table : goal.returns-then-p-table
unfolding ended
returns-then-p-table c = search chain

pub returns : goal.returns
unfolding ended
returns c = search chain
