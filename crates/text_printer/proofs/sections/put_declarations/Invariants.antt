-- The invariant of `sections::put_declarations`: the declarations that are left are what is left of the text.
use Prim.Native.Nat.{◌-◌}
use Rattle.grammar.specs.Layout.{arities_from}
use Rattle.text.specs.Printed.{declarations_text}
use Rattle.text_printer.proofs.Walks.{Left}
use Rattle.text_printer.proofs.sections.put_declarations.Given as goal

abbrev pub invariant-loop-k : goal.invariant-loop-k
invariant-loop-k l =
    Left 24 l.initial.page (declarations_text 0 (arities_from l.table 0 l.symbols)) l.k l.page
    (declarations_text l.k (arities_from l.table l.k (l.symbols - l.k)))
