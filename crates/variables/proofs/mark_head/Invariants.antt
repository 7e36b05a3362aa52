-- `variables::mark_head` meets its contract: one slot after the other.
use Rattle.std.proofs.Common.{◌≡◌}
use Rattle.variables.specs.Named.{marked_first}
use Rattle.variables.proofs.mark_head.Given as goal

abbrev pub invariant-loop-k : goal.invariant-loop-k
invariant-loop-k l = l.named ≡ marked_first l.table l.p l.k l.fn.named
