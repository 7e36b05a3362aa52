-- `values::bodies::work_out` meets its contract: what the items that are left come to, behind those that are worked out, is what the body comes to.
use Rattle.values.proofs.Lists.{work-first, work-here, work-lacks, work-more, work-done}
use Rattle.values.proofs.bodies.work_out.Goals as goal

pub loop-i-init : goal.loop-i-init
loop-i-init c = work-first _ _ _ _ _ c.told-body c.requires

pub item_entry-requires : goal.item_entry-requires
item_entry-requires c = work-here c.loop-i.invariant c.loop-i-test.true

pub behind_item-at-requires : goal.behind_item-at-requires
behind_item-at-requires c = work-here c.loop-i.invariant c.loop-i-test.true

pub returns-in_err-body : goal.returns-in_err-body
returns-in_err-body c = rw c.from_residual.ensures (work-lacks c.loop-i.invariant c.loop-i-test.true c.item_entry.ensures c.in_err-body.was)

pub loop-i-preserved : goal.loop-i-preserved
loop-i-preserved c = work-more c.loop-i.invariant c.loop-i-test.true c.item_entry.ensures c.in_ok-body.was c.behind_item-at.ensures

pub returns : goal.returns
returns c = work-done c.loop-i.invariant c.loop-i-test.false
