-- `check_goal` meets its contract.
use Rattle.records.proofs.Tests.{chain}
use Rattle.model.specs.Goal.{goal_verdict}
use Rattle.goal.proofs.check_goal.Goals as goal

pub returns-then-goal-ne0 : goal.returns-then-goal-ne0
unfolding goal_verdict
returns-then-goal-ne0 c = rw c.at.ensures (search chain)

pub returns-then-count-gt-MAX : goal.returns-then-count-gt-MAX
unfolding goal_verdict
returns-then-count-gt-MAX c = rw c.at-then-count-gt-MAX.ensures (search chain)

pub returns : goal.returns
unfolding goal_verdict
returns c = search chain
