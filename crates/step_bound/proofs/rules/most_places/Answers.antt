-- `rules::most_places` meets its contract. The invariant: the most so far is that of the symbols below s.
use Rattle.step_bound.proofs.Turns.{no-places, more-places}
use Rattle.step_bound.proofs.rules.most_places.Goals as goal

pub loop-s-init : goal.loop-s-init
loop-s-init c = no-places _

pub loop-s-preserved : goal.loop-s-preserved
loop-s-preserved c = rw c.max-most.ensures (more-places _ _ c.loop-s.invariant c.symbol_places.ensures)
