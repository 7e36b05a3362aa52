-- The invariant: the heads left, with what comes behind them, have what is asked for behind the places left.
use Rattle.occurrences.proofs.Counting.{HeadsLeft}
use Rattle.occurrences.proofs.Rules.in_rule.Given as goal

abbrev pub invariant-loop-head : goal.invariant-loop-head
invariant-loop-head l = HeadsLeft l.self.table.now l.shape l.k l.symbol l.fn.left l.head l.left
