-- `goal_fact_bad` meets its contract.
use Rattle.records.proofs.Tests.{chain}
use Rattle.model.specs.Goal.{goal_fact_bad}
use Rattle.goal.proofs.Facts.{differ, agree}
use Rattle.goal.proofs.goal_fact_bad.Goals as goal

pub returns-then-goal-p-ne-KIND : goal.returns-then-goal-p-ne-KIND
unfolding goal_fact_bad
returns-then-goal-p-ne-KIND c = search (differ, chain)

pub returns-then-symbols-symbol : goal.returns-then-symbols-symbol
unfolding goal_fact_bad
returns-then-symbols-symbol c = search (agree, chain)

pub returns : goal.returns
unfolding goal_fact_bad
returns c = rw (← c.arity_at-arity.ensures) (search (agree, chain))
