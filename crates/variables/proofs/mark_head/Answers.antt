-- `variables::mark_head` meets its contract: one slot after the other.
use mathlib.Core.Path.{◌≡◌, refl}
use native.Mathlib.Omega.{arith}
use Rattle.variables.specs.Named.{marked_first}
use Rattle.variables.proofs.Marks.{first-marked, head-marked}
use Rattle.variables.proofs.mark_head.Goals as goal

pub loop-k-init : goal.loop-k-init
unfolding marked_first
loop-k-init c = refl

pub loop-k-preserved : goal.loop-k-preserved
loop-k-preserved c = first-marked _ _ _ _ c.loop-k.invariant c.mark_slot.ensures

pub returns : goal.returns
returns c =
    let all : c.loop-k.k ≡ 4 = omega (arith, c.loop-k.auto.k-end, c.loop-k-test.false) in
    head-marked _ _ _ (rw all at c.loop-k.invariant)
