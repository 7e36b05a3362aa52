-- The facts passed over leave what they leave.
use Rattle.std.proofs.Common.{◌≡◌, drop}
use Rattle.matching.specs.Views.{from_passing}
use Rattle.matching.proofs.probing.from_passing.Given as goal

abbrev pub invariant-loop-i : goal.invariant-loop-i
invariant-loop-i l = from_passing l.probe (drop l.i l.facts) ≡ from_passing l.probe l.facts
