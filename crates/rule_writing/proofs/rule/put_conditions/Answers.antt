-- `rule::put_conditions` meets its contract.
use borrow.Author.Rules.{rules}
use Rattle.rule_writing.proofs.Rules.{guards-none, guards-some}
use Rattle.rule_writing.proofs.rule.put_conditions.Goals as goal

pub returns-then-shape-gt0 : goal.returns-then-shape-gt0
returns-then-shape-gt0 c = search (guards-some, rules)

pub returns-else-shape-gt0 : goal.returns-else-shape-gt0
returns-else-shape-gt0 c = search (guards-none, rules)
