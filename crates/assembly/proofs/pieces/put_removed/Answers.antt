-- `pieces::put_removed` meets its contract. The invariant: the heads that are left, laid into what there is, give the whole.
use borrow.Author.Rules.{rules}
use Rattle.assembly.proofs.Laying.{laid-begins, laid-more, laid-done}
use Rattle.assembly.proofs.pieces.put_removed.Goals as goal

pub loop-left-init : goal.loop-left-init
loop-left-init c = search (laid-begins, rules)

pub loop-left-preserved : goal.loop-left-preserved
loop-left-preserved c = search (laid-more, rules)

pub returns : goal.returns
returns c = search (laid-done, rules)
