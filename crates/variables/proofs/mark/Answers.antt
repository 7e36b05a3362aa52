-- `variables::mark` meets its contract, by what the record makes of the rule.
use borrow.Author.Rules.{rules}
use Rattle.variables.proofs.Marks.{head-lies, more-named, fewer-named, still-named}
use Rattle.variables.proofs.mark.Goals as goal

pub mark_head-requires : goal.mark_head-requires
mark_head-requires c = search (head-lies, rules)

pub returns-then-before-after : goal.returns-then-before-after
returns-then-before-after c = rw c.mark_head.ensures (search (more-named, rules))

pub returns-then-after-before : goal.returns-then-after-before
returns-then-after-before c = rw c.no_marks.ensures (search (fewer-named, rules))

pub returns-else-after-before : goal.returns-else-after-before
returns-else-after-before c = search (still-named, rules)
