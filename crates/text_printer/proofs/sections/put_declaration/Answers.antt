-- `sections::put_declaration` meets its contract.
use Rattle.text_printer.proofs.Walks.{declaration-put}
use Rattle.text_printer.proofs.sections.put_declaration.Goals as goal

pub returns : goal.returns
returns c = declaration-put c.args.table.now c.args.k c.arity_at.ensures c.put_symbol.ensures c.put.ensures c.put_decimal.ensures c.put_bytes.ensures
