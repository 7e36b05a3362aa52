-- `run_input::table_end` meets its contract. The invariant: what is left of the records answers for the whole input. Assumes nothing.
use Prim.Native.Nat.{◌-◌}
use lib.ListN.{length}
use Rattle.run_input.proofs.Turns.{Going}
use Rattle.run_input.proofs.table_end.Given as goal

abbrev pub invariant-loop-byte : goal.invariant-loop-byte
invariant-loop-byte l = Going l.input l.at

abbrev pub decreases-loop-byte : goal.decreases-loop-byte
decreases-loop-byte l = length l.input - l.at
