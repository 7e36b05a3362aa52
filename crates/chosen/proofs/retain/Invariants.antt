-- `chosen::retain` meets its contract: the first places hold what stays of the items passed, and the places behind are as they were.
use Rattle.std.proofs.Common.{◌≡◌, ◌≤◌, length, Bool, Bor}
use Rattle.model.proofs.Compacting.{Compacting}
use Rattle.chosen.proofs.retain.Given as goal

abbrev pub invariant-loop-i : goal.invariant-loop-i
invariant-loop-i g l = record {
  fewer : l.kept ≤ l.i;
  long : length l.items ≡ length l.initial.items;
  passed : (test : g.row.T.Denot → Bool) → ((x : Bor g.row.T.Denot) (r : Bool) → goal.F-post g l.stays x r → r ≡ test x.now)
      → Compacting test l.initial.items l.items (length l.initial.items) l.kept l.i;
}
