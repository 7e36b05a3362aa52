-- `terms::expression_used` meets its contract.
use borrow.Author.Rules.{rules}
use Rattle.text_writing.proofs.Spelled.{expression-unused, expression-alone, expression-applied}
use Rattle.text_writing.proofs.terms.expression_used.Goals as goal

pub returns-else-slot_used : goal.returns-else-slot_used
returns-else-slot_used c = search (expression-unused, rules)

pub returns-then-e-eq0 : goal.returns-then-e-eq0
returns-then-e-eq0 c = search (expression-alone, rules)

pub returns-else-e-eq0 : goal.returns-else-e-eq0
returns-else-e-eq0 c = search (expression-applied, rules)
