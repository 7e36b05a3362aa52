-- `variables::strange_at` meets its contract: one answer a test.
use borrow.Author.Tests.{le-ltb}
use Rattle.variables.proofs.Marks.{is-marked, too-high, by-tag}
use Rattle.variables.proofs.strange_at.Goals as goal

pub returns-then-named-at : goal.returns-then-named-at
returns-then-named-at c = search is-marked

pub returns-then-value-lt-VARIABLES : goal.returns-then-value-lt-VARIABLES
returns-then-value-lt-VARIABLES c = search by-tag

pub returns-else-value-lt-VARIABLES : goal.returns-else-value-lt-VARIABLES
returns-else-value-lt-VARIABLES c = rw (le-ltb _ _ c.if-value-lt-VARIABLES.false) (search too-high)
