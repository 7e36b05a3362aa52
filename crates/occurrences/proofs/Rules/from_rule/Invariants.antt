-- The invariant: the rules left have what is asked for behind the places left.
use Rattle.std.specs.Prelude.{◌≡◌}
use Rattle.std.specs.Prelude.{slice_get}
use Rattle.model.specs.Table.{table_of}
use Rattle.occurrences.specs.Counting.{places_behind}
use Rattle.occurrences.proofs.Rules.from_rule.Given as goal

abbrev pub invariant-loop-rule : goal.invariant-loop-rule
invariant-loop-rule l =
    slice_get (places_behind (table_of l.self.table.now) l.symbol l.rule) l.left
    ≡ slice_get (places_behind (table_of l.self.table.now) l.symbol l.first) l.fn.left
