-- `read` meets its contract. The invariant: what is left of the records answers for the whole table, the scan is sane, and the marks are those of the
-- rule being read.
use Prim.Native.Nat.{◌-◌}
use lib.ListN.{length}
use Rattle.table.proofs.Turns.{Left}
use Rattle.table.proofs.read.Given as goal

abbrev pub invariant-loop-next : goal.invariant-loop-next
invariant-loop-next l = Left l.table l.shapes l.s l.named

abbrev pub decreases-loop-next : goal.decreases-loop-next
decreases-loop-next l = length l.table - l.s.at
