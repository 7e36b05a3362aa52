-- `bodies::sum_over` meets its contract: each turn adds what one item gives.
use native.Mathlib.Omega.{arith}
use Rattle.records.proofs.PartsLie.{first-lies, first-in}
use Rattle.rule_weights.proofs.Parts.{summed, items_rest, items-begin, items-none, lie-begin, fact-added, fail-passed, lie-later}
use Rattle.rule_weights.proofs.bodies.sum_over.Goals as goal
use Rattle.rule_weights.proofs.bodies.sum_over.Goals.{then-is_fact, else-is_fact}

pub loop-init : goal.loop-init
loop-init g c = (items-begin _ _ _, lie-begin _ _ _ c.requires.lie.lie)

pub is_fact-requires : goal.is_fact-requires
is_fact-requires g c = first-in _ _ _ c.loop.invariant.1 (omega arith)

pub overflow_add-p : goal.overflow_add-p
overflow_add-p g c = omega (arith, first-in _ _ _ c.loop.invariant.1 (omega arith))

pub overflow_add-sum : goal.overflow_add-sum
overflow_add-sum g c = record { fits = omega (arith, c.requires.lie.few, c.loop.invariant.0.fits, c.of.type_inv) }

pub behind_item-p-requires : goal.behind_item-p-requires
behind_item-p-requires g c = first-lies _ _ _ c.loop.invariant.1 (omega arith)

pub loop-preserved : goal.loop-preserved
loop-preserved g c =
    let l = c.loop.invariant in
    let behind = c.behind_item-p.ensures in (
      elim c.if-is_fact.branch [
        | then-is_fact w ↦
            fact-added _ _ _ l.0 (omega arith) behind c.is_fact.ensures w.if-is_fact.true w.byte.type_inv w.byte.ensures w.of.type_inv w.of.ensures
            w.from-sum.ensures w.sum-is
        | else-is_fact w ↦ fail-passed _ _ _ l.0 (omega arith) behind c.is_fact.ensures w.if-is_fact.false w.sum-is
      ],
      lie-later _ _ _ _ l.1 (omega arith) behind,
    )

pub returns : goal.returns
unfolding items_rest
returns g c = summed c.loop.invariant.0 (omega arith) (items-none _ _ _ (omega arith))
