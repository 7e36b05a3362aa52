-- `terms::operation_bytes` meets its contract.
use borrow.Author.Rules.{rules}
use Rattle.text_writing.proofs.Spelled.{operation-sum}
use Rattle.text_writing.proofs.terms.operation_bytes.Goals as goal

pub returns-in_default : goal.returns-in_default
returns-in_default c = search (operation-sum, rules)
