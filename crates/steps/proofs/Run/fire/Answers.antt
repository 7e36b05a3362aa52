use mathlib.Core.Path.{◌∙◌}
use Prim.Native.Nat.{ℕ, ◌+◌}
use lib.ListN.{take}
use mathlib.Core.Path.{ap}
use Rattle.steps.specs.States.{state_of}
use Rattle.steps.proofs.Lists.{fired-so}
use Rattle.steps.proofs.Run.fire.Goals as goal

pub returns : goal.returns
returns c = record {
  state = fired-so (state_of c.args.self.now) c.args.e c.args.g (take c.args.g.shape.heads c.args.firing.now.chosen)
      (take c.args.g.shape.items c.args.firing.now.body) c.keep.ensures.goes.state c.push_body.ensures.state c.leave.ensures.state;
  firings = ap (λ (n : ℕ). n + 1) (c.leave.ensures.firings ∙ c.push_body.ensures.firings ∙ c.keep.ensures.goes.firings);
  rules = c.leave.ensures.rules ∙ c.push_body.ensures.rules ∙ c.keep.ensures.goes.rules;
}
