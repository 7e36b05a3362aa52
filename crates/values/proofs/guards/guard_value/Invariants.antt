-- `values::guards::guard_value` meets its contract: what is left of the list has the value of the whole, up to the first comparison that is not true.
use Rattle.std.proofs.Common.{◌≡◌, ◌+◌, ◌*◌, ◌-◌}
use Rattle.model.specs.Guards.{guard_value}
use Rattle.model.specs.Table.{guards_from}
use Rattle.values.proofs.guards.guard_value.Given as goal

abbrev pub invariant-loop-i : goal.invariant-loop-i
invariant-loop-i l = guard_value l.binding (guards_from l.table (l.p + 24 * l.i) (l.n - l.i)) ≡ guard_value l.binding (guards_from l.table l.p l.n)
