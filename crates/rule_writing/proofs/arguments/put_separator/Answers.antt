-- `arguments::put_separator` meets its contract.
use borrow.Author.Rules.{rules}
use Rattle.rule_writing.proofs.Bracketed.{opening, following}
use Rattle.rule_writing.proofs.arguments.put_separator.Goals as goal

pub returns-then-page-start : goal.returns-then-page-start
returns-then-page-start c = search (opening, rules)

pub returns-else-page-start : goal.returns-else-page-start
returns-else-page-start c = search (following, rules)
