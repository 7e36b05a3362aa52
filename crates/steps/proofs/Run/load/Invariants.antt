-- The invariant: the facts from i on are on the stack, and room is left for those before.
use Rattle.std.specs.Prelude.{◌≡◌, ◌+◌, ◌/◌, ◌++◌, map, drop, length}
use Rattle.model.specs.Goal.{goal_of}
use Rattle.model.specs.Steps.{waiting}
use Rattle.steps.specs.States.{stack_of, state_of, stacked, Goes}
use Rattle.steps.proofs.Run.load.Given as goal

abbrev pub invariant-loop-i : goal.invariant-loop-i
invariant-loop-i l = record {
  goes : Goes l.fn.self l.self (stacked (state_of l.fn.self) (drop l.i (map waiting (goal_of l.goal)) ++ stack_of l.fn.self)) l.fn.self.firings;
  room : l.self.stack.len + l.i ≡ l.fn.self.stack.len + length l.goal / 18;
}
