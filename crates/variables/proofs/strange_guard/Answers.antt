-- `variables::strange_guard` meets its contract: one return a part.
use Rattle.records.proofs.Tests.{chain}
use Rattle.model.specs.Variables.{strange_guard}
use Rattle.variables.proofs.strange_guard.Goals as goal

pub returns-then-strange_expression : goal.returns-then-strange_expression
unfolding strange_guard
returns-then-strange_expression c = search chain

pub returns-else-strange_expression : goal.returns-else-strange_expression
unfolding strange_guard
returns-else-strange_expression c = search chain
