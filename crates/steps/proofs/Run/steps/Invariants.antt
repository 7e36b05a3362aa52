-- The invariant: so many steps are taken, and what is left of the run equals the whole.
use Rattle.steps.specs.States.{state_of}
use Rattle.steps.proofs.Turns.{Running}
use Rattle.steps.proofs.Run.steps.Given as goal

abbrev pub invariant-loop-used : goal.invariant-loop-used
invariant-loop-used l = Running l.fn.self.places.rules.table.now l.limit (state_of l.fn.self) l.self l.used
