-- `nadhirukh_read_text` meets its contract: what is given back is the library's own result. Assumes nothing.
use borrow.Author.Rules.{rules}
use Rattle.nadhirukh.proofs.Gives.{read-given}
use Rattle.nadhirukh.proofs.nadhirukh_read_text.Goals as goal

pub returns : goal.returns
returns c = search (read-given, rules)
