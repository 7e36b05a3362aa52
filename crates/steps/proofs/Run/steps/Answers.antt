use borrow.Author.Rules.{rules}
use mathlib.Core.Path.{◌≡◌, refl, ap}
use Rattle.std.specs.Prelude.{Result, Ok}
use Rattle.step.specs.declared.Decision.{Decision}
use Rattle.step.specs.declared.Ending.{Ending}
use Rattle.step.specs.declared.Decision.TheVariants.{Activate, Drop}
use native.Mathlib.Omega.{arith}
use Rattle.steps.proofs.Turns.{run-begins, turn-of, emptied, store-room, ids-room, firings-room, fits, activates, drops, defaults, fires-on}
use Rattle.steps.proofs.Turns.{fails-now, stops-now, at-limit, at-limit-done}
use Rattle.steps.proofs.Lists.{on-top}
use Rattle.steps.specs.States.{state_of, stacked}
use Rattle.steps.proofs.Run.steps.Goals as goal
use Rattle.steps.proofs.Run.steps.Goals.{in-Ok-Activate, in-Ok-Drop, in-Ok-Default, in-Ok-Fire}

pub loop-used-init : goal.loop-used-init
loop-used-init c = run-begins c.args.self.now refl c.requires.0.given c.requires.0.firings

pub returns-in_default : goal.returns-in_default
returns-in_default c =
    let none : c.pop.new.self.len ≡ 0 = omega (arith, c.in_default.ensures.len, c.in_default.ensures.none) in
    emptied c.loop-used.invariant c.in_default.ensures.none _ (rw (none, c.in_default.ensures.none) refl) refl c.ended.ensures

pub activate-requires : goal.activate-requires
activate-requires c =
    let u = turn-of c.loop-used.invariant c.loop-used-test.true c.requires.1 c.pop.new.self c.in-Some.ensures.last c.decide.ensures.decided c.decide.new.self
    c.decide.ensures.state c.decide.ensures.firings c.decide.ensures.len c.decide.ensures.rules in
    let r = c.loop-used.self in (
      omega (arith, c.decide.ensures.len, c.in-Some.ensures.len, c.in-Some.ensures.some, r.stack.fits, r.stack_room),
      store-room u (rw c.in-Ok-Activate.field-0-is at c.in-Ok-Activate.is),
      ids-room u,
    )

pub fire-requires : goal.fire-requires
fire-requires c =
    let u = turn-of c.loop-used.invariant c.loop-used-test.true c.requires.1 c.pop.new.self c.in-Some.ensures.last c.decide.ensures.decided c.decide.new.self
    c.decide.ensures.state c.decide.ensures.firings c.decide.ensures.len c.decide.ensures.rules in
    (fits u (rw c.in-Ok-Fire.field-0-is at c.in-Ok-Fire.is), firings-room u)

pub returns-in-Ok-Fail : goal.returns-in-Ok-Fail
returns-in-Ok-Fail c =
    let u = turn-of c.loop-used.invariant c.loop-used-test.true c.requires.1 c.pop.new.self c.in-Some.ensures.last c.decide.ensures.decided c.decide.new.self
    c.decide.ensures.state c.decide.ensures.firings c.decide.ensures.len c.decide.ensures.rules in
    fails-now u (rw c.in-Ok-Fail.field-0-is at c.in-Ok-Fail.is) c.ended-in-Ok-Fail.ensures

pub returns-in-Err : goal.returns-in-Err
returns-in-Err c =
    let u = turn-of c.loop-used.invariant c.loop-used-test.true c.requires.1 c.pop.new.self c.in-Some.ensures.last c.decide.ensures.decided c.decide.new.self
    c.decide.ensures.state c.decide.ensures.firings c.decide.ensures.len c.decide.ensures.rules in
    stops-now u c.in-Err.is c.number.ensures c.place.ensures c.ended-in-Err.ensures

pub loop-used-preserved : goal.loop-used-preserved
loop-used-preserved c =
    let u = turn-of c.loop-used.invariant c.loop-used-test.true c.requires.1 c.pop.new.self c.in-Some.ensures.last c.decide.ensures.decided c.decide.new.self
    c.decide.ensures.state c.decide.ensures.firings c.decide.ensures.len c.decide.ensures.rules in
    elim c.match-decide-2.branch [
      | in-Ok-Activate w ↦
          let is : ◌≡◌ {A = Result Decision Ending} c.decide.result (Ok Activate) = search rules in
          rw w.self-is (activates u is w.activate.ensures)
      | in-Ok-Drop w ↦
          let is : ◌≡◌ {A = Result Decision Ending} c.decide.result (Ok Drop) = search rules in rw w.self-is (drops u is)
      | in-Ok-Default w ↦ rw w.self-is (defaults u (search rules) w.advance.ensures)
      | in-Ok-Fire w ↦ rw w.self-is (fires-on u (search rules) w.fire.ensures)
    ]

pub returns-then-self-eq0 : goal.returns-then-self-eq0
returns-then-self-eq0 c = at-limit-done c.loop-used.invariant c.loop-used-test.false c.if-self-eq0.true c.ended-then-self-eq0.ensures

pub returns : goal.returns
returns c = at-limit c.loop-used.invariant c.loop-used-test.false c.if-self-eq0.false c.ended-2.ensures
