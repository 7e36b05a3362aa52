-- `search` meets its contract. The invariant: what is left of the search answers for the whole of it.
use Prim.Native.Nat.{◌-◌}
use Rattle.model.specs.Table.{table_of}
use Rattle.raises.specs.Search.{most_raises, search_from}
use Rattle.raises.proofs.Turns.{Left}
use Rattle.raises.proofs.search.Given as goal

abbrev pub invariant-loop : goal.invariant-loop
invariant-loop l =
    Left l.table.bytes.now (search_from most_raises (table_of l.table.bytes.now).rules l.initial.weights) l.table.reading.now.symbols l.weights
    (most_raises - l.counter)
