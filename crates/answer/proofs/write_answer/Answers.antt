use mathlib.Core.Path.{refl}
use native.Mathlib.Omega.{arith}
use Rattle.answer.proofs.Records.{answering-begins, answering-more, answering-done}
use Rattle.answer.proofs.write_answer.Goals as goal

pub loop-i-init : goal.loop-i-init
loop-i-init c = answering-begins c.args.facts.now _

pub loop-i-preserved : goal.loop-i-preserved
loop-i-preserved c =
    answering-more _ c.loop-i.invariant c.requires c.loop-i-test.true _ (omega arith) c.write_fact.ensures refl

pub returns : goal.returns
returns c = answering-done _ c.loop-i.invariant (omega (arith, c.loop-i-test.false))
