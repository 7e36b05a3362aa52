-- `weighed` meets its contract.
use Rattle.weighing.proofs.Chain.{few-facts, weighed-is}
use Rattle.weighing.proofs.weighed.Goals as goal

pub fact_count-facts-requires : goal.fact_count-facts-requires
fact_count-facts-requires c = few-facts _ _ _ c.requires

pub goal_weight-weight-requires : goal.goal_weight-weight-requires
goal_weight-weight-requires c = few-facts _ _ _ c.requires

pub returns : goal.returns
returns c =
    weighed-is _ _ _ c.refusal.ensures c.step_bound.ensures c.fact_count-facts.ensures c.goal_weight-weight.ensures c.most_facts-body.ensures
    c.most_places-places.ensures
