-- The invariant of `sections::put_rules`: the rules that are left are what is left of the text.
use Rattle.text_printer.proofs.Walks.{Left, rules_text}
use Rattle.text_printer.proofs.sections.put_rules.Given as goal

abbrev pub invariant-loop-shape : goal.invariant-loop-shape
invariant-loop-shape l = Left 989 l.initial.page (rules_text l.table 0) l.shape-index l.page (rules_text l.table l.shape-index)
