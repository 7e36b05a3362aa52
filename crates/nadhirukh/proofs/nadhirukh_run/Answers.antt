-- `nadhirukh_run` meets its contract: what is given back is the library's own result. Assumes nothing.
use borrow.Author.Rules.{rules}
use Rattle.nadhirukh.proofs.Gives.{run-given}
use Rattle.nadhirukh.proofs.nadhirukh_run.Goals as goal

pub returns : goal.returns
returns c = search (run-given, rules)
