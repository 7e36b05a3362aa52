-- `Page::put_slot` meets its contract.
use borrow.Author.Rules.{rules}
use Rattle.text_writing.proofs.Spelled.{unused-put, constant-put, variable-put}
use Rattle.text_writing.proofs.Page.put_slot.Goals as goal

pub returns-in-Constant : goal.returns-in-Constant
returns-in-Constant c = search (constant-put, rules)

pub returns-in-Variable : goal.returns-in-Variable
returns-in-Variable c = variable-put c.args.slot c.in-Variable.is c.put_indexed.ensures

pub returns-in-Unused : goal.returns-in-Unused
returns-in-Unused c = unused-put c.args.slot c.in-Unused.is
