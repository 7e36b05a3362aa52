use native.Mathlib.Omega.{arith}
use borrow.Author.Rules.{rules}
use Rattle.std.specs.Prelude.{pos, get_or}
use Rattle.std.specs.Int.{w32}
use Rattle.std.proofs.Common.{SFits, to_z-of_z}
use Rattle.answer.proofs.Records.{writing-begins, writing-more, writing-done}
use Rattle.answer.proofs.write_fact.Goals as goal

pub loop-k-init : goal.loop-k-init
loop-k-init c = search (writing-begins, rules)

pub loop-k-preserved : goal.loop-k-preserved
loop-k-preserved c =
    let fits : SFits w32 (get_or c.args.stored.now.fact.arguments c.loop-k.k (pos 0)) = search rules in
    writing-more c.loop-k.invariant c.loop-k-test.true (to_z-of_z fits) c.write_i32.ensures

pub returns : goal.returns
returns c = writing-done c.loop-k.invariant (omega (arith, c.loop-k-test.false))
