-- `nadhirukh_find_weights` meets its contract: what is given back is the library's own result. Assumes nothing.
use borrow.Author.Rules.{rules}
use Rattle.nadhirukh.proofs.Gives.{find-given}
use Rattle.nadhirukh.proofs.nadhirukh_find_weights.Goals as goal

pub returns : goal.returns
returns c = search (find-given, rules)
