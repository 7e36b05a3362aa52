-- The invariant of `lists::put_list`: so many are written, and the others lie behind.
use Prim.Native.Nat.{◌+◌}
use Rattle.rule_writing.proofs.Listed.{Listed}
use Rattle.rule_writing.proofs.lists.put_list.Given as goal

abbrev pub invariant-loop-i : goal.invariant-loop-i
invariant-loop-i g l = let k = g.P.Part in Listed k.Lie k.texts (2 + k.most) l.table l.from l.parts l.initial.page l.i l.p l.page
