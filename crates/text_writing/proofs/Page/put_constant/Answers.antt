-- `Page::put_constant` meets its contract.
use mir.Facts.{to_z-of_z}
use Rattle.text_writing.proofs.Spelled.{positive-put, negative-put}
use Rattle.text_writing.proofs.Page.put_constant.Goals as goal
use Rattle.text_writing.proofs.Page.put_constant.Goals.{then-v-lt0, else-v-lt0}

pub returns : goal.returns
returns c =
    let v = to_z-of_z c.ranges.v in
    elim c.if-v-lt0.branch [
      | then-v-lt0 w ↦ negative-put c.args.v (rw v at c.unsigned_abs.ensures.value) (rw v at w.if-v-lt0.true) (rw w.self-is w.put.ensures) c.put_decimal.ensures
      | else-v-lt0 w ↦ positive-put c.args.v (rw v at c.unsigned_abs.ensures.value) (rw v at w.if-v-lt0.false) (rw w.self-is at c.put_decimal.ensures)
    ]
