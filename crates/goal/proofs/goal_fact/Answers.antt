-- `goal_fact` meets its contract.
use Rattle.std.proofs.Common.{rules}
use Rattle.model.specs.Goal.{fact_at}
use Rattle.goal.proofs.goal_fact.Goals as goal

pub returns : goal.returns
unfolding fact_at
returns c = search rules
