-- `GoodTable::rule` meets its contract: a rule of a good table lies in its bytes.
use native.Mathlib.Omega.{arith}
use Rattle.rule_weights.proofs.Turns.{few-rules, lies}
use Rattle.rule_weights.proofs.good.GoodTable.rule.Goals as goal

pub bounds-self-from : goal.bounds-self-from
bounds-self-from c = omega (arith, few-rules c.args.self.now.known, c.from.ensures)

pub invariant_of-result : goal.invariant_of-result
invariant_of-result c = record { lies = lies c.args.self.now.known (omega arith) }
