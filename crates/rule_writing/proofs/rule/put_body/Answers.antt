-- `rule::put_body` meets its contract.
use borrow.Author.Rules.{rules}
use Rattle.rule_writing.proofs.Rules.{body-true, body-some}
use Rattle.rule_writing.proofs.rule.put_body.Goals as goal

pub returns-then-shape-eq0 : goal.returns-then-shape-eq0
returns-then-shape-eq0 c = search (body-true, rules)

pub returns-else-shape-eq0 : goal.returns-else-shape-eq0
returns-else-shape-eq0 c = search (body-some, rules)
