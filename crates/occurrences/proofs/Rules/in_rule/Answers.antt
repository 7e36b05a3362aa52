use borrow.Author.Rules.{rules}
use Rattle.occurrences.proofs.Counting.{heads-end, head-found, head-passed, head-other}
use Rattle.occurrences.proofs.Rules.in_rule.Goals as goal

pub returns-then-left-eq0 : goal.returns-then-left-eq0
returns-then-left-eq0 c = search (head-found, rules)

pub loop-head-preserved-then-self-p : goal.loop-head-preserved-then-self-p
loop-head-preserved-then-self-p c = search (head-passed, rules)

pub loop-head-preserved : goal.loop-head-preserved
loop-head-preserved c = search (head-other, rules)

pub returns : goal.returns
returns c = search (heads-end, rules)
