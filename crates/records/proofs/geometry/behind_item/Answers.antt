-- `geometry::behind_item` meets its contract: a fact takes its own bytes and fail one.
use Rattle.model.specs.Table.{behind_item}
use Rattle.records.proofs.Tests.{chain}
use Rattle.records.proofs.geometry.behind_item.Goals as goal

pub returns-then-is_fact : goal.returns-then-is_fact
unfolding behind_item
returns-then-is_fact c = search chain

pub returns-else-is_fact : goal.returns-else-is_fact
unfolding behind_item
returns-else-is_fact c = search chain
