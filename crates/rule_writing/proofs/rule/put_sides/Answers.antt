-- `rule::put_sides` meets its contract: the kept heads alone, the removed ones alone, or both.
use Rattle.rule_writing.proofs.Rules.{propagated, simplified, simpagated}
use Rattle.rule_writing.proofs.rule.put_sides.Goals as goal
use Rattle.rule_writing.proofs.rule.put_sides.Goals.{then-shape-gt0, else-shape-gt0}

pub returns-then-removed-eq0 : goal.returns-then-removed-eq0
returns-then-removed-eq0 c =
    propagated c.args.table.now c.args.shape c.requires.rule c.head_start.ensures c.put_list.ensures c.if-removed-eq0.true c.put_bytes.ensures

pub returns : goal.returns
returns c =
    let t = c.args.table.now in
    let r = c.args.shape in
    elim c.if-shape-gt0.branch [
      | then-shape-gt0 w ↦
          simpagated t r c.requires.rule c.head_start.ensures c.put_list.ensures c.head_start-2.ensures c.put_bytes-2.ensures w.if-shape-gt0.true
          c.if-removed-eq0.false (rw w.page-is w.put_bytes-then-shape-gt0.ensures) c.put_list-2.ensures
      | else-shape-gt0 w ↦
          simplified t r c.requires.rule c.head_start.ensures c.put_list.ensures c.head_start-2.ensures c.put_bytes-2.ensures w.if-shape-gt0.false
          (rw w.page-is at c.put_list-2.ensures)
    ]
