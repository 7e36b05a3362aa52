-- `rules::symbol_places` meets its contract: each turn counts the heads of one rule.
use Prim.Native.Nat.{◌*◌}
use lib.ListN.{length, drop}
use Rattle.model.specs.Table.{table_of, places}
use Rattle.rule_weights.proofs.Parts.{Part}
use Rattle.step_bound.specs.Views.{all_heads_with}
use Rattle.step_bound.proofs.rules.symbol_places.Given as goal

abbrev pub invariant-loop-n : goal.invariant-loop-n
invariant-loop-n l =
    Part (length (places (table_of l.table.bytes.now) l.symbol)) (all_heads_with l.symbol (drop l.n (table_of l.table.bytes.now).rules)) (4 * l.n) l.count
