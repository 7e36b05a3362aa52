-- `nadhirukh_print_text` meets its contract: what is given back is the library's own result. Assumes nothing.
use borrow.Author.Rules.{rules}
use Rattle.nadhirukh.proofs.Gives.{print-given}
use Rattle.nadhirukh.proofs.nadhirukh_print_text.Goals as goal

pub returns : goal.returns
returns c = search (print-given, rules)
