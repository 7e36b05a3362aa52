-- `Comparison::put` meets its contract.
use borrow.Author.Rules.{rules}
use Rattle.rule_writing.proofs.Pieces.{left-used, right-used, guard-put}
use Rattle.rule_writing.proofs.parts.ComparisonPart.put.Goals as goal

pub put_expression-requires-clause-used : goal.put_expression-requires-clause-used
put_expression-requires-clause-used c = search (left-used, rules)

pub put_expression-requires-2-clause-used : goal.put_expression-requires-2-clause-used
put_expression-requires-2-clause-used c = search (right-used, rules)

pub returns-clause-written : goal.returns-clause-written
returns-clause-written c = search (guard-put, rules)
