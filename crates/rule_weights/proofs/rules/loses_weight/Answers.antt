-- `rules::loses_weight` meets its contract.
use Rattle.rule_weights.proofs.Turns.{rule-loses}
use Rattle.rule_weights.proofs.rules.loses_weight.Goals as goal

pub returns : goal.returns
returns c = search rule-loses
