-- `matching::heads::match_head` meets its contract: what the slots that are left make of the binding is what all make of the first one.
use Rattle.std.proofs.Common.{rules, refl}
use Rattle.matching.proofs.Slots.{head-other, head-miss, head-next, head-done}
use Rattle.matching.proofs.heads.match_head.Goals as goal

pub loop-k-init : goal.loop-k-init
loop-k-init c = record { same = refl }

pub returns-then-table-p : goal.returns-then-table-p
returns-then-table-p c = head-other _ _ _ _ c.if-table-p.true

pub returns-then-not-match_slot : goal.returns-then-not-match_slot
returns-then-not-match_slot c =
    head-miss c.loop-k.invariant c.loop-k-test.true _ _ c.match_slot.ensures (search rules) c.if-not-match_slot.true c.if-table-p.false

pub loop-k-preserved : goal.loop-k-preserved
loop-k-preserved c = head-next c.loop-k.invariant c.loop-k-test.true _ _ c.match_slot.ensures (search rules) c.if-not-match_slot.false

pub returns : goal.returns
returns c = head-done c.loop-k.invariant c.loop-k-test.false c.if-table-p.false
