-- `rule::put_rule` meets its contract.
use Rattle.rule_writing.proofs.Rules.{rule-put}
use Rattle.rule_writing.proofs.rule.put_rule.Goals as goal

pub returns : goal.returns
returns c = rule-put c.args.table.now c.args.shape c.put_sides.ensures c.put_conditions.ensures c.put_body.ensures c.put_bytes.ensures
