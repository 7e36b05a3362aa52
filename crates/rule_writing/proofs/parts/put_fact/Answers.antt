-- `parts::put_fact` meets its contract.
use borrow.Author.Rules.{rules}
use Rattle.rule_writing.proofs.Pieces.{fact-put}
use Rattle.rule_writing.proofs.parts.put_fact.Goals as goal

pub returns : goal.returns
returns c = search (fact-put, rules)
