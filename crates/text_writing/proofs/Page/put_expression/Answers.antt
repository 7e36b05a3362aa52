-- `Page::put_expression` meets its contract.
use borrow.Author.Rules.{rules}
use Rattle.text_writing.proofs.Spelled.{alone-put, applied-put}
use Rattle.text_writing.proofs.Page.put_expression.Goals as goal

pub returns-then-e-ne0 : goal.returns-then-e-ne0
returns-then-e-ne0 c = search (applied-put, rules)

pub returns-else-e-ne0 : goal.returns-else-e-ne0
returns-else-e-ne0 c = search (alone-put, rules)
