-- `facts_verdict` meets its contract. The invariant: what is left of the facts answers for all of them.
use Rattle.goal.proofs.Facts.{facts-begin, fact-bad, fact-passed, facts-end}
use Rattle.goal.proofs.facts_verdict.Goals as goal

pub loop-k-init : goal.loop-k-init
loop-k-init c = facts-begin _ _ _ _

pub returns-then-goal_fact_bad : goal.returns-then-goal_fact_bad
returns-then-goal_fact_bad c = rw c.at.ensures (search fact-bad)

pub loop-k-preserved : goal.loop-k-preserved
loop-k-preserved c = search fact-passed

pub returns : goal.returns
returns c = search facts-end
