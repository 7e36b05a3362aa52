-- `rules::most_facts` meets its contract. The invariant: the most so far and the most of the rules that are left are the most of all.
use native.Mathlib.Omega.{arith}
use Rattle.step_bound.proofs.Turns.{more-facts, facts-done}
use Rattle.step_bound.proofs.rules.most_facts.Goals as goal

pub loop-n-preserved : goal.loop-n-preserved
loop-n-preserved c =
    rw c.max-most.ensures
    (more-facts c.args.table.now.known c.loop-n.invariant (omega arith) (rw (c.rule.ensures.bytes, c.rule.ensures.shape) at c.rule_facts.ensures))

pub returns : goal.returns
returns c = facts-done c.args.table.now.known c.loop-n.invariant (omega arith)
