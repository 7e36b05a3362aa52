-- `values::guards::guard_value` meets its contract: what is left of the list has the value of the whole, up to the first comparison that is not true.
use Rattle.values.proofs.Lists.{guard-step, guard-end}
use Rattle.values.proofs.guards.guard_value.Goals as goal

pub returns-in_err-comparison_value : goal.returns-in_err-comparison_value
returns-in_err-comparison_value c =
    let s = guard-step _ _ _ _ _ c.loop-i.invariant c.loop-i-test.true c.comparison_value.ensures in
    rw (c.from_residual.ensures) (rw c.in_err-comparison_value.was at s)

pub returns-then-not-branch : goal.returns-then-not-branch
returns-then-not-branch c =
    let s = guard-step _ _ _ _ _ c.loop-i.invariant c.loop-i-test.true c.comparison_value.ensures in
    rw (c.in_ok-comparison_value.was, c.if-not-branch.true) at s

pub loop-i-preserved : goal.loop-i-preserved
loop-i-preserved c =
    let s = guard-step _ _ _ _ _ c.loop-i.invariant c.loop-i-test.true c.comparison_value.ensures in
    rw (c.in_ok-comparison_value.was, c.if-not-branch.false) at s

pub returns : goal.returns
returns c = guard-end _ _ _ _ _ c.loop-i.invariant c.loop-i-test.false
