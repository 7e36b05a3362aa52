-- `sections::put_table` meets its contract.
use mathlib.Core.Path.{refl, sym}
use borrow.Author.Rules.{rules}
use native.Mathlib.Omega.{arith}
use Rattle.text_printer.proofs.Walks.{declarations-room, rules-room, table-put}
use Rattle.text_printer.proofs.sections.put_table.Goals as goal

pub put_declarations-requires : goal.put_declarations-requires
put_declarations-requires c = declarations-room c.requires

pub put_rules-requires-clause-room : goal.put_rules-requires-clause-room
put_rules-requires-clause-room c = rules-room c.requires refl c.put_declarations.ensures

pub returns-clause-bytes : goal.returns-clause-bytes
returns-clause-bytes c = let whole = table-put c.requires refl c.put_declarations.ensures c.put_rules.ensures in let name = sym whole.buffer in search rules

pub returns-clause-counted : goal.returns-clause-counted
returns-clause-counted c =
    let whole = table-put c.requires refl c.put_declarations.ensures c.put_rules.ensures in
    record { same = omega (arith, whole.place); few = omega (arith, whole.place, whole.few) }
