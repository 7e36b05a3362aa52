-- `nadhirukh_check` meets its contract: what is given back is the library's own result. Assumes nothing.
use borrow.Author.Rules.{rules}
use Rattle.nadhirukh.proofs.Gives.{given}
use Rattle.nadhirukh.proofs.nadhirukh_check.Goals as goal

pub returns : goal.returns
returns c = search (given, rules)
