-- `pieces::put_removed` meets its contract. The invariant: the heads that are left, laid into what there is, give the whole.
use Prim.Native.Nat.{◌-◌, ◌/◌}
use Rattle.assembly.proofs.Laying.{Laid}
use Rattle.assembly.proofs.pieces.put_removed.Given as goal

abbrev pub invariant-loop-left : goal.invariant-loop-left
invariant-loop-left l = Laid l.start ((l.end - l.start) / 22) l.p l.left l.initial.table l.table

abbrev pub decreases-loop-left : goal.decreases-loop-left
decreases-loop-left l = l.left
