use mathlib.Core.Path.{◌∙◌}
use Rattle.occurrences.proofs.Marks.{stands-there, standing, leads-there}
use Rattle.occurrences.proofs.Counting.{all-behind}
use Rattle.occurrences.proofs.Places.find.Goals as goal

pub from_place-requires : goal.from_place-requires
from_place-requires c = standing c.args.self.now.marked c.in-Some.is _ c.if-mark-symbol.true c.args.self.now.rules.countable.good

pub returns-then-mark-index : goal.returns-then-mark-index
returns-then-mark-index c = leads-there c.args.self.now.marked c.in-Some.is _ c.if-mark-symbol.true c.if-mark-index.true c.from_place.ensures

pub returns-then-mark-index-2 : goal.returns-then-mark-index-2
returns-then-mark-index-2 c = stands-there c.args.self.now.marked c.in-Some.is _ c.if-mark-symbol.true c.if-mark-index-2.true

pub returns : goal.returns
returns c = c.from_rule.ensures ∙ all-behind _ _ _
