use mathlib.Core.Path.{refl}
use native.Mathlib.Numerals.{add-one}
use Rattle.model.specs.Steps.{activated}
use Rattle.steps.proofs.Lists.{on-top}
use Rattle.steps.proofs.Run.activate.Goals as goal

pub returns : goal.returns
unfolding activated
returns c = record {
  state = rw (on-top _ c.push-2.ensures.items, c.push.ensures.items, c.fact_of_entry-fact.ensures, add-one) refl;
  firings = refl;
  rules = refl;
}
