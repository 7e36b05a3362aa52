-- `bodies::sum_over` meets its contract: each turn adds what one item gives.
use Prim.Native.Nat.{◌-◌}
use Rattle.records.specs.Geometry.{ItemsLie}
use Rattle.rule_weights.proofs.Parts.{Summed, items_rest}
use Rattle.rule_weights.proofs.bodies.sum_over.Given as goal

abbrev pub invariant-loop : goal.invariant-loop
invariant-loop g l =
    Summed (λ s r. goal.F-post g l.of s r) (items_rest l.table l.from l.items) (items_rest l.table l.p (l.items - l.counter)) l.sum l.counter
    × ItemsLie l.table l.p (l.items - l.counter)
