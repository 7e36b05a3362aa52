-- `terms::comparator_bytes` meets its contract.
use borrow.Author.Rules.{rules}
use Rattle.text_writing.proofs.Spelled.{comparator-equal}
use Rattle.text_writing.proofs.terms.comparator_bytes.Goals as goal

pub returns-in_default : goal.returns-in_default
returns-in_default c = search (comparator-equal, rules)
