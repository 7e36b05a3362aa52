-- `Head::put` meets its contract.
use borrow.Author.Rules.{rules}
use Rattle.rule_writing.proofs.Pieces.{head-put}
use Rattle.rule_writing.proofs.parts.HeadPart.put.Goals as goal

pub returns-clause-written : goal.returns-clause-written
returns-clause-written c = search (head-put, rules)
