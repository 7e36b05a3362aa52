-- `sections::put_declarations` meets its contract.
use native.Mathlib.Omega.{arith}
use Rattle.text_printer.proofs.Walks.{left-none, left-more, one-declared, all-declared}
use Rattle.text_printer.proofs.sections.put_declarations.Goals as goal

pub loop-k-preserved : goal.loop-k-preserved
loop-k-preserved c =
    left-more c.loop-k.invariant c.put_declaration.ensures (omega arith) _
    (one-declared c.args.table.now c.loop-k.k c.args.symbols c.loop-k-test.true)

pub returns : goal.returns
returns c = left-none c.loop-k.invariant (omega arith) (all-declared c.args.table.now c.loop-k.k c.args.symbols (omega arith))
