-- `goals::goal_weight` meets its contract.
use borrow.Author.Rules.{rules}
use Rattle.rule_weights.proofs.Parts.{byte-counted}
use Rattle.weighing.proofs.Parts.{goal-counted}
use Rattle.weighing.proofs.goals.goal_weight.Goals as goal

pub returns : goal.returns
returns c = goal-counted _ _ c.requires (c.sum_over.ensures _ 255 (record { each = λ s r h g p. byte-counted (search rules) g }))
