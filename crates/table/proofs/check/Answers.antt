-- `check` meets its contract.
use borrow.Author.Rules.{rules}
use Rattle.table.proofs.Verdicts.{checked-good, checked-refused}
use Rattle.table.proofs.check.Goals as goal

pub returns-in-Ok : goal.returns-in-Ok
returns-in-Ok c = checked-good _ c.read.ensures c.in-Ok.is (search rules)

pub returns-in-Err : goal.returns-in-Err
returns-in-Err c = search checked-refused
