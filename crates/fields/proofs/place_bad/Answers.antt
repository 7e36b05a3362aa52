-- `fields::place_bad` meets its contract: one arm a slot.
use mathlib.Core.Logic.{inl, inr}
use Rattle.model.specs.Fields.{place_bad}
use Rattle.fields.proofs.place_bad.Goals as goal

pub returns-in-Unused : goal.returns-in-Unused
unfolding place_bad
returns-in-Unused c = rw c.in-Unused.is

pub returns-in-Constant : goal.returns-in-Constant
unfolding place_bad
returns-in-Constant c = elim c.in-Constant.is [ inl x ↦ rw x.1 | inr x ↦ rw x.1 ]

pub returns-in-Bad : goal.returns-in-Bad
unfolding place_bad
returns-in-Bad c = rw c.in-Bad.is
