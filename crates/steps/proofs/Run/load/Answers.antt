use mathlib.Core.Path.{refl}
use native.Mathlib.Omega.{arith}
use Rattle.steps.specs.States.{state_of}
use Rattle.steps.proofs.Lists.{on-top, one-more, none-loaded, one-loaded}
use Rattle.steps.proofs.Run.load.Goals as goal

pub loop-i-init : goal.loop-i-init
loop-i-init c = record { goes = record { state = rw (none-loaded c.args.goal.now) refl; firings = refl; rules = refl }; room = refl }

pub loop-i-preserved : goal.loop-i-preserved
loop-i-preserved c =
    let loaded = one-loaded c.args.goal.now c.loop-i.i c.loop-i-test.true (omega arith) c.goal_fact-fact.ensures in
    record {
      goes = record {
        state = rw loaded (one-more (state_of c.args.self.now) c.loop-i.invariant.goes.state (on-top _ c.push.ensures.items));
        firings = c.loop-i.invariant.goes.firings;
        rules = c.loop-i.invariant.goes.rules;
      };
      room = omega (arith, c.push.ensures.len, c.loop-i.invariant.room, c.loop-i-test.true);
    }
