-- `rules::most_places` meets its contract. The invariant: the most so far is that of the symbols below s.
use Rattle.model.specs.Table.{table_of}
use Rattle.model.specs.Weights.{most_places}
use Rattle.rule_weights.specs.Views.{Counted}
use Rattle.step_bound.proofs.rules.most_places.Given as goal

abbrev pub invariant-loop-s : goal.invariant-loop-s
invariant-loop-s l = Counted (most_places (table_of l.table.bytes.now) l.s) 256 l.most
