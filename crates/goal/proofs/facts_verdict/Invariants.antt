-- `facts_verdict` meets its contract. The invariant: what is left of the facts answers for all of them.
use Rattle.goal.proofs.Facts.{FactsLeft}
use Rattle.goal.proofs.facts_verdict.Given as goal

abbrev pub invariant-loop-k : goal.invariant-loop-k
invariant-loop-k l = FactsLeft l.table l.symbols l.goal l.count l.k
