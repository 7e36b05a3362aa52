-- `variables::strange` meets its contract: one arm a kind.
use Rattle.model.specs.Variables.{strange}
use Rattle.variables.proofs.Marks.{other-kind}
use Rattle.variables.proofs.strange.Goals as goal

pub returns-in-Comparison : goal.returns-in-Comparison
unfolding strange
returns-in-Comparison c = rw c.in-Comparison.is c.strange_guard.ensures

pub returns-in-BodyFact : goal.returns-in-BodyFact
unfolding strange
returns-in-BodyFact c = rw c.in-BodyFact.is c.strange_fact.ensures

pub returns-in_default : goal.returns-in_default
returns-in_default c = other-kind _ _ _ c.in_default.not-Comparison c.in_default.not-BodyFact
