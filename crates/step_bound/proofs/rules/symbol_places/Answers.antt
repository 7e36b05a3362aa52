-- `rules::symbol_places` meets its contract: each turn counts the heads of one rule.
use native.Mathlib.Omega.{arith}
use Rattle.step_bound.proofs.Turns.{places-begin, places-turn, places-done}
use Rattle.step_bound.proofs.rules.symbol_places.Goals as goal

pub loop-n-init : goal.loop-n-init
loop-n-init c = places-begin _ c.args.table.now.known

pub loop-n-preserved : goal.loop-n-preserved
loop-n-preserved c =
    places-turn _ c.args.table.now.known c.loop-n.invariant (omega arith) (rw (c.rule.ensures.bytes, c.rule.ensures.shape) at c.rule_heads_with-count.ensures)

pub returns : goal.returns
returns c = places-done _ c.args.table.now.known c.loop-n.invariant (omega arith) (omega arith)
