use mathlib.Core.Path.{refl}
use Rattle.steps.specs.States.{state_of}
use Rattle.steps.proofs.Lists.{none-left}
use Rattle.steps.proofs.Run.leave.Goals as goal

pub returns-then-kept-chosen : goal.returns-then-kept-chosen
returns-then-kept-chosen c = record {
  state = none-left (state_of c.args.self.now) c.args.g c.args.chosen.now c.if-kept-chosen.true c.requires.1
      (rw c.entry.ensures at c.push.ensures.items);
  firings = refl;
  rules = refl;
}
