-- `later_bad` meets its contract.
use borrow.Author.Tests.{le-leb, lt-leb}
use Rattle.model.specs.Goal.{later_bad}
use Rattle.goal.proofs.later_bad.Goals as goal

pub returns-then-arity-place : goal.returns-then-arity-place
unfolding later_bad
returns-then-arity-place c = rw (le-leb _ _ c.if-arity-place.true, ← c.u32_within.ensures)

pub returns-else-arity-place : goal.returns-else-arity-place
unfolding later_bad
returns-else-arity-place c = rw (lt-leb _ _ c.if-arity-place.false)
