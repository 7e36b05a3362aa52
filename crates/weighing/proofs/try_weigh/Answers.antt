-- `try_weigh` meets its contract: each test's answer is the definition's case.
use mathlib.Core.Path.{ap, ◌∙◌}
use Rattle.std.proofs.lemmas.Result.{err_from_is_err_and}
use Rattle.model.specs.Calls.{refused_weighing}
use Rattle.weighing.proofs.Chain.{table-refused, other-count, zero-weight, heavy-rule, goal-refused, all-good}
use Rattle.weighing.proofs.try_weigh.Goals as goal

pub returns-in_err-reading : goal.returns-in_err-reading
returns-in_err-reading c =
    let p = err_from_is_err_and c.from_residual.result c.from_residual.ensures.1 in
    rw (p.1, p.2) (table-refused _ _ _ c.read-reading.ensures c.in_err-reading.was)

pub returns-then-weights-from : goal.returns-then-weights-from
returns-then-weights-from c =
    ap refused_weighing c.at.ensures ∙ other-count _ _ _ c.read-reading.ensures c.in_ok-reading.was c.from.ensures c.if-weights-from.true

pub returns-in-Some : goal.returns-in-Some
returns-in-Some c =
    ap refused_weighing c.at-in-Some.ensures
    ∙ zero-weight _ _ _ c.read-reading.ensures c.in_ok-reading.was c.from.ensures c.if-weights-from.false c.in-Some.ensures c.from-in-Some.ensures

pub returns-in-Some-first_heavy : goal.returns-in-Some-first_heavy
returns-in-Some-first_heavy c =
    ap refused_weighing c.at-in-Some-first_heavy.ensures
    ∙ heavy-rule _ _ _ c.read-reading.ensures c.in_ok-reading.was c.from.ensures c.if-weights-from.false c.in_default.ensures c.in-Some-first_heavy.ensures
    c.from-in-Some-first_heavy.ensures

pub returns-in_err-check_goal : goal.returns-in_err-check_goal
returns-in_err-check_goal c =
    let p = err_from_is_err_and c.from_residual-in_err-check_goal.result c.from_residual-in_err-check_goal.ensures.1 in
    rw (p.1, p.2)
    (goal-refused _ _ _ c.read-reading.ensures c.in_ok-reading.was c.from.ensures c.if-weights-from.false c.in_default.ensures c.in_default-first_heavy.ensures
    c.in_err-check_goal.ensures)

pub returns : goal.returns
returns c =
    c.weighed.ensures
    ∙ all-good _ _ _ c.read-reading.ensures c.in_ok-reading.was c.from.ensures c.if-weights-from.false c.in_default.ensures c.in_default-first_heavy.ensures
    c.in_ok-check_goal.ensures
