use mathlib.Core.Path.{◌∙◌}
use native.Mathlib.Omega.{arith}
use Rattle.occurrences.proofs.Counting.{rules-few, heads-lie, rule-found, rule-passed, none-behind}
use Rattle.occurrences.proofs.Rules.from_rule.Goals as goal

pub in_rule-requires : goal.in_rule-requires
in_rule-requires c = heads-lie c.args.self.now.countable c.loop-rule-test.true

pub overflow_cast-result : goal.overflow_cast-result
overflow_cast-result c = record { fits = omega (arith, rules-few c.args.self.now.countable, c.loop-rule-test.true) }

pub returns-in-Break : goal.returns-in-Break
returns-in-Break c = rule-found c.args.self.now.countable c.loop-rule-test.true c.in_rule.ensures c.in-Break.is ∙ c.loop-rule.invariant

pub loop-rule-preserved : goal.loop-rule-preserved
loop-rule-preserved c = rule-passed c.args.self.now.countable c.loop-rule-test.true c.in_rule.ensures c.in-Continue.is ∙ c.loop-rule.invariant

pub returns : goal.returns
returns c = none-behind c.args.self.now.countable _ _ c.loop-rule-test.false ∙ c.loop-rule.invariant
