-- `try_run` meets its contract: each test's answer is the definition's case.
use mathlib.Core.Path.{refl}
use Rattle.std.proofs.lemmas.Result.{err_from_is_err_and}
use Rattle.engine.proofs.Calling.{table-refused, few-rules, goal-refused, limit-refused, room-refused, all-passed, refused-ran, passed-ran}
use Rattle.engine.proofs.try_run.Goals as goal

pub returns-in_err-reading : goal.returns-in_err-reading
returns-in_err-reading c =
    let p = err_from_is_err_and c.from_residual.result c.from_residual.ensures.1 in
    rw (p.1, p.2) (refused-ran refl (table-refused _ _ _ _ c.read-reading.ensures c.in_err-reading.was))

pub returns-in_err-check_goal : goal.returns-in_err-check_goal
returns-in_err-check_goal c =
    let p = err_from_is_err_and c.from_residual-in_err-check_goal.result c.from_residual-in_err-check_goal.ensures.1 in
    rw (p.1, p.2) (refused-ran refl (goal-refused _ _ _ _ c.read-reading.ensures c.in_ok-reading.was c.in_err-check_goal.ensures))

pub returns-then-limit-gt-MAX : goal.returns-then-limit-gt-MAX
returns-then-limit-gt-MAX c =
    refused-ran c.at.ensures (limit-refused _ _ _ _ c.read-reading.ensures c.in_ok-reading.was c.in_ok-check_goal.ensures c.if-limit-gt-MAX.true)

pub returns-then-answer-lt-MIN : goal.returns-then-answer-lt-MIN
returns-then-answer-lt-MIN c =
    refused-ran c.at-then-answer-lt-MIN.ensures
    (room-refused _ _ _ _ c.read-reading.ensures c.in_ok-reading.was c.in_ok-check_goal.ensures c.if-limit-gt-MAX.false c.if-answer-lt-MIN.true)

pub shared_ref_as_front-rules : goal.shared_ref_as_front-rules
shared_ref_as_front-rules c = few-rules c.args.table.now c.args.goal.now c.args.limit c.args.answer.now c.read-reading.ensures c.in_ok-reading.was

pub returns : goal.returns
returns c =
    passed-ran c.run_passed.ensures
    (all-passed _ _ _ _ c.read-reading.ensures c.in_ok-reading.was c.in_ok-check_goal.ensures c.if-limit-gt-MAX.false c.if-answer-lt-MIN.false)
