-- `Page::put_symbol` meets its contract.
use borrow.Author.Rules.{rules}
use Rattle.text.specs.Printed.{symbol_text}
use Rattle.text_writing.proofs.Page.put_symbol.Goals as goal

pub returns : goal.returns
unfolding symbol_text
returns c = search rules
