-- `variables::strange_expression` meets its contract: one return a part.
use Rattle.records.proofs.Tests.{chain}
use Rattle.model.specs.Variables.{strange_expression}
use Rattle.variables.proofs.strange_expression.Goals as goal

pub returns-then-strange_at : goal.returns-then-strange_at
unfolding strange_expression
returns-then-strange_at c = search chain

pub returns-else-strange_at : goal.returns-else-strange_at
unfolding strange_expression
returns-else-strange_at c = search chain
