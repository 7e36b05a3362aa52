-- `nadhirukh_weigh` meets its contract: what is given back is the library's own result. Assumes nothing.
use borrow.Author.Rules.{rules}
use Rattle.nadhirukh.proofs.Gives.{weigh-given}
use Rattle.nadhirukh.proofs.nadhirukh_weigh.Goals as goal

pub returns : goal.returns
returns c = search (weigh-given, rules)
