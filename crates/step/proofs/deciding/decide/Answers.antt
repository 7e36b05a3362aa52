use mathlib.Core.Path.{sym, ◌∙◌}
use Rattle.step.proofs.Decides.{activates, store-full, drops, fails-there, rule-among, next-fits, tried, attempted}
use Rattle.step.proofs.deciding.decide.Goals as goal

pub returns-then-store-lt-CAPACITY-clause-decided : goal.returns-then-store-lt-CAPACITY-clause-decided
returns-then-store-lt-CAPACITY-clause-decided c = activates c.in-Waiting.is c.if-store-lt-CAPACITY.true

pub returns-else-store-lt-CAPACITY-clause-decided : goal.returns-else-store-lt-CAPACITY-clause-decided
returns-else-store-lt-CAPACITY-clause-decided c = store-full c.in-Waiting.is c.if-store-lt-CAPACITY.false

pub returns-in-None-clause-decided : goal.returns-in-None-clause-decided
returns-in-None-clause-decided c = drops c.in-Active.is (sym c.place_of.ensures.place ∙ c.in-None.is)

pub bounds-places-place : goal.bounds-places-place
bounds-places-place c = rule-among c.place_of.ensures.rules c.args.e c.in-Active.j c.place_of.ensures.place c.in-Some.is

pub overflow_add-j : goal.overflow_add-j
overflow_add-j c = next-fits c.place_of.ensures.rules c.args.e c.in-Active.j c.place_of.ensures.place c.in-Some.is

pub attempt-requires : goal.attempt-requires
attempt-requires c = tried c.place_of.ensures.rules c.args.e c.in-Active.j c.place_of.ensures.place c.in-Some.is c.requires.0 c.requires.1.1

pub returns-in-Some-clause-decided : goal.returns-in-Some-clause-decided
returns-in-Some-clause-decided c =
    attempted c.place_of.ensures.rules c.args.e c.in-Active.j c.place_of.ensures.place c.in-Some.is c.in-Active.is c.attempt.ensures

pub returns-in-Fail-clause-decided : goal.returns-in-Fail-clause-decided
returns-in-Fail-clause-decided c = fails-there c.in-Fail.is
