-- `run_passed` meets its contract: the steps give the result and the store, and the answer is written only for 0.
use mathlib.Core.Path.{refl, sym, ap}
use native.Mathlib.Omega.{arith}
use Rattle.engine.proofs.Calling.{goal-fits, run-is, done-output, other-output}
use Rattle.engine.proofs.run_passed.Goals as goal

pub load-requires : goal.load-requires
load-requires c = omega (arith, c.new-2.ensures.len, goal-fits _ _ _ c.requires.good_goal)

pub returns-then-result-eq0 : goal.returns-then-result-eq0
returns-then-result-eq0 c =
    let rules = ap (λ x. x.table.now) c.new.ensures.rules in
    let e = run-is _ c.new-2.ensures.len c.new-3.ensures.len c.new-4.ensures.len refl _ c.load.ensures rules c.args.limit in
    rw (sym e) (done-output c.steps-result.ensures _ c.if-result-eq0.true c.items.ensures c.write_answer.ensures)

pub returns-else-result-eq0 : goal.returns-else-result-eq0
returns-else-result-eq0 c =
    let rules = ap (λ x. x.table.now) c.new.ensures.rules in
    let e = run-is _ c.new-2.ensures.len c.new-3.ensures.len c.new-4.ensures.len refl _ c.load.ensures rules c.args.limit in
    rw (sym e) (other-output c.steps-result.ensures _ c.if-result-eq0.false)
