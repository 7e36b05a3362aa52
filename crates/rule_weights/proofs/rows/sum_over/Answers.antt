-- `rows::sum_over` meets its contract: each turn adds what one record gives.
use native.Mathlib.Omega.{arith}
use Rattle.rule_weights.proofs.Parts.{summed, rows-begin, rows-none, row-added}
use Rattle.rule_weights.proofs.rows.sum_over.Goals as goal

pub loop-k-init : goal.loop-k-init
loop-k-init g c = rows-begin _ _ _ _

pub overflow_add-sum : goal.overflow_add-sum
overflow_add-sum g c = record { fits = omega (arith, c.requires.few, c.loop-k.invariant.fits, c.of.type_inv) }

pub loop-k-preserved : goal.loop-k-preserved
loop-k-preserved g c = row-added _ _ _ _ c.loop-k.invariant (omega arith) c.byte.type_inv c.byte.ensures c.of.type_inv c.of.ensures c.from-sum.ensures

pub returns : goal.returns
returns g c = summed c.loop-k.invariant (omega arith) (rows-none _ _ _ _ _ (omega arith))
