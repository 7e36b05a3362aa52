-- `values::bodies::work_out` meets its contract: what the items that are left come to, behind those that are worked out, is what the body comes to.
use Rattle.values.proofs.Lists.{Working}
use Rattle.values.proofs.bodies.work_out.Given as goal

abbrev pub invariant-loop-i : goal.invariant-loop-i
invariant-loop-i l = Working l.binding l.table l.p l.n l.body l.at l.i
