-- `give` meets its contract: one law a return.
use Rattle.std.proofs.lemmas.Result.{err_from_is_err_and}
use Rattle.text_reader.proofs.Gives.{gives-short, gives-bad, gives-good}
use Rattle.text_reader.proofs.give.Goals as goal

pub returns-then-table-n : goal.returns-then-table-n
returns-then-table-n c = gives-short c.args.assembled.now c.args.n c.args.table.now c.requires c.if-table-n.true c.at.ensures

pub returns-in_err-read : goal.returns-in_err-read
returns-in_err-read c =
    let p = err_from_is_err_and c.from_residual.result c.from_residual.ensures.1 in
    rw (p.1, p.2) (gives-bad c.args.assembled.now c.args.n c.args.table.now c.requires c.if-table-n.false c.min.ensures
    (rw (← c.read.ensures) c.in_err-read.was))

pub returns : goal.returns
returns c =
    gives-good c.args.assembled.now c.args.n c.args.table.now c.requires c.if-table-n.false c.min.ensures
    (rw (← c.read.ensures) c.in_ok-read.was) (rw c.copy_from_slice.ensures.after)
