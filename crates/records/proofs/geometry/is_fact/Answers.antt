-- `geometry::is_fact` meets its contract.
use borrow.Author.Rules.{rules}
use Rattle.model.specs.Table.{is_fact}
use Rattle.records.proofs.geometry.is_fact.Goals as goal

pub returns : goal.returns
unfolding is_fact
returns c = search rules
