-- `lists::put_list` meets its contract.
use Prim.Native.Nat.{◌+◌}
use native.Mathlib.Omega.{arith}
use Rattle.text_writing.specs.Written.{Put}
use Rattle.rule_writing.proofs.Bracketed.{between, begun, parted, unit-room}
use Rattle.rule_writing.proofs.Listed.{listed-none, listed-all, next-lies, listed-more}
use Rattle.rule_writing.proofs.lists.put_list.Goals as goal
use Rattle.rule_writing.proofs.lists.put_list.Goals.{then-i-gt0, else-i-gt0}

pub loop-i-init : goal.loop-i-init
loop-i-init g c = listed-none g.P.Part.Lie g.P.Part.texts c.requires.lie

pub put-p-requires-clause-lies : goal.put-p-requires-clause-lies
put-p-requires-clause-lies g c =
    let k = g.P.Part in
    (next-lies k.text k.behind k.Lie k.texts c.loop-i.invariant c.loop-i-test.true g.met.P.Part.first_lies).0

pub put-p-requires-clause-room : goal.put-p-requires-clause-room
put-p-requires-clause-room g c =
    let l = c.loop-i.invariant in
    let room = unit-room (2 + g.P.Part.most) c.loop-i.i c.args.parts c.loop-i-test.true in
    let mark : Put c.loop-i.page (between l.done) 2 c.if-i-gt0.page =
    elim c.if-i-gt0.branch [
      | then-i-gt0 w ↦ rw w.page-is (parted l.done (omega (arith, l.count)) w.put_bytes.ensures)
      | else-i-gt0 w ↦ begun l.done (omega (arith, l.count)) w.page-is
    ] in
    omega (arith, l.put.place, l.put.few, mark.place, mark.few)

pub loop-i-preserved : goal.loop-i-preserved
loop-i-preserved g c =
    let k = g.P.Part in
    let l = c.loop-i.invariant in
    let mark : Put c.loop-i.page (between l.done) 2 c.if-i-gt0.page =
    elim c.if-i-gt0.branch [
      | then-i-gt0 w ↦ rw w.page-is (parted l.done (omega (arith, l.count)) w.put_bytes.ensures)
      | else-i-gt0 w ↦ begun l.done (omega (arith, l.count)) w.page-is
    ] in
    rw c.put-p.ensures.next
    (listed-more k.text k.behind k.Lie k.texts l c.loop-i-test.true g.met.P.Part.first
    (next-lies k.text k.behind k.Lie k.texts l c.loop-i-test.true g.met.P.Part.first_lies).1 mark c.put-p.ensures.written (omega arith))

pub returns : goal.returns
returns g c = listed-all g.P.Part.Lie g.P.Part.texts c.loop-i.invariant g.met.P.Part.none (omega arith) (omega arith)
