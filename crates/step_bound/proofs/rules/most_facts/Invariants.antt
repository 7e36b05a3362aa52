-- `rules::most_facts` meets its contract. The invariant: the most so far and the most of the rules that are left are the most of all.
use lib.ListN.{drop}
use Rattle.model.specs.Table.{table_of}
use Rattle.model.specs.Weights.{most_facts}
use Rattle.step_bound.proofs.Turns.{Most}
use Rattle.step_bound.proofs.rules.most_facts.Given as goal

abbrev pub invariant-loop-n : goal.invariant-loop-n
invariant-loop-n l =
    Most (most_facts (table_of l.table.bytes.now).rules) (most_facts (drop l.n (table_of l.table.bytes.now).rules)) 4 l.most
