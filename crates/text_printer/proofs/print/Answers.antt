-- `print` meets its contract.
use Rattle.std.proofs.lemmas.Result.{err_from_is_err_and}
use Rattle.text_printer.proofs.Calling.{refused, no-room, room}
use Rattle.text_printer.proofs.print.Goals as goal

pub returns-in_err-reading : goal.returns-in_err-reading
returns-in_err-reading c =
    let p = err_from_is_err_and c.from_residual.result c.from_residual.ensures.1 in
    rw (p.1, p.2) (refused c.args.table.now c.args.text.now c.read-reading.ensures c.in_err-reading.was)

pub returns-then-text-long : goal.returns-then-text-long
returns-then-text-long c =
    rw c.at.ensures
    (no-room c.args.table.now c.args.text.now c.read-reading.ensures c.in_ok-reading.was c.text_length-long.ensures c.if-text-long.true)

pub returns : goal.returns
returns c =
    room c.args.table.now c.args.text.now c.read-reading.ensures c.in_ok-reading.was c.text_length-long.ensures c.if-text-long.false c.put_table.ensures.bytes
