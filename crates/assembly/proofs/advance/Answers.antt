-- `advance` meets its contract.
use Rattle.assembly.specs.Moves.{moved}
use Rattle.assembly.proofs.advance.Goals as goal

pub returns : goal.returns
unfolding moved
returns c = c.go_on.ensures
