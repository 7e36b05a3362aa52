-- `read` meets its contract: one law a return.
use native.Mathlib.Omega.{arith}
use Rattle.std.proofs.lemmas.Result.{err_from_is_err_and}
use Rattle.text_reader.proofs.Gives.{text-long, text-refused, text-whole}
use Rattle.text_reader.proofs.read.Goals as goal

pub returns-then-text-gt-LONGEST_TEXT : goal.returns-then-text-gt-LONGEST_TEXT
returns-then-text-gt-LONGEST_TEXT c = text-long c.args.text.now c.args.table.now c.if-text-gt-LONGEST_TEXT.true c.at.ensures

pub returns-in_err-length : goal.returns-in_err-length
returns-in_err-length c =
    let p = err_from_is_err_and c.from_residual.result c.from_residual.ensures.1 in
    rw (p.1, p.2) (text-refused c.args.text.now c.args.table.now (omega (arith, c.if-text-gt-LONGEST_TEXT.false)) c.in_err-length.ensures)

pub returns : goal.returns
returns c =
    text-whole c.args.text.now c.args.table.now (omega (arith, c.if-text-gt-LONGEST_TEXT.false)) c.in_ok-length.ensures c.give.ensures
