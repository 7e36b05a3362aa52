-- The invariant: the items from i on are on the stack, and room is left for those before.
use Rattle.std.specs.Prelude.{◌≡◌, ◌+◌, ◌++◌, drop, length}
use Rattle.steps.specs.States.{stack_of, state_of, stacked, Goes}
use Rattle.steps.proofs.Run.push_body.Given as goal

abbrev pub invariant-loop-i : goal.invariant-loop-i
invariant-loop-i l = record {
  goes : Goes l.fn.self l.self (stacked (state_of l.fn.self) (drop l.i l.body ++ stack_of l.fn.self)) l.fn.self.firings;
  room : l.self.stack.len + l.i ≡ l.fn.self.stack.len + length l.body;
}
