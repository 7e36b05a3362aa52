-- `rows::sum_over` meets its contract: each turn adds what one record gives.
use Rattle.rule_weights.specs.Views.{rows_weight}
use Rattle.rule_weights.proofs.Parts.{Summed, rows_rest}
use Rattle.rule_weights.proofs.rows.sum_over.Given as goal

abbrev pub invariant-loop-k : goal.invariant-loop-k
invariant-loop-k g l =
    Summed (λ s r. goal.F-post g l.of s r) (λ w. rows_weight w l.bytes l.from l.size l.count) (rows_rest l.bytes l.from l.size l.count l.k) l.sum l.k
