-- `from_passing` meets its contract: the facts passed over leave what the others leave.
use Rattle.std.proofs.Common.{refl}
use Rattle.matching.proofs.Passing.{first-passes, passed-over, none-passes}
use Rattle.matching.proofs.probing.from_passing.Goals as goal

pub loop-i-init : goal.loop-i-init
loop-i-init c = refl

pub returns-then-passes : goal.returns-then-passes
returns-then-passes c = first-passes _ _ _ c.loop-i.invariant c.loop-i-test.true _ c.passes.ensures c.if-passes.true

pub loop-i-preserved : goal.loop-i-preserved
loop-i-preserved c = passed-over _ _ _ c.loop-i.invariant c.loop-i-test.true _ c.passes.ensures c.if-passes.false

pub returns : goal.returns
returns c = none-passes _ _ _ c.loop-i.invariant c.loop-i-test.false
