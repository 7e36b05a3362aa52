use Rattle.occurrences.proofs.Counting.{below-lie, below-found, below-passed}
use Rattle.occurrences.proofs.Rules.from_place.Goals as goal

pub in_rule-requires : goal.in_rule-requires
in_rule-requires c = below-lie c.args.self.now.countable c.requires

pub returns-in-Break : goal.returns-in-Break
returns-in-Break c = below-found c.args.self.now.countable c.requires c.in_rule.ensures c.in-Break.is

pub returns-in-Continue : goal.returns-in-Continue
returns-in-Continue c = below-passed c.args.self.now.countable c.requires c.in_rule.ensures c.in-Continue.is c.from_rule.ensures
