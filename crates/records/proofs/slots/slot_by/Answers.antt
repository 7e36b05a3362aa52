-- `slots::slot_by` meets its contract: one arm a case of the definition.
use native.Mathlib.Omega.{arith}
use Rattle.records.proofs.Tests.{tests}
use Rattle.model.specs.Slots.{slot_by}
use Rattle.records.proofs.Constants.{constant-slot}
use Rattle.records.proofs.slots.slot_by.Goals as goal

pub returns-in-0 : goal.returns-in-0
unfolding slot_by
returns-in-0 c = search tests

pub returns-in-1 : goal.returns-in-1
unfolding slot_by
returns-in-1 c = constant-slot _ _ c.signed.ensures (omega arith) c.in-1.is

pub returns-in-2 : goal.returns-in-2
unfolding slot_by
returns-in-2 c = rw c.in-2.is (search tests)

pub returns-in_default : goal.returns-in_default
unfolding slot_by
returns-in_default c = search tests

pub returns-in_default-2 : goal.returns-in_default-2
unfolding slot_by
returns-in_default-2 c = rw c.in-2.is (search tests)

pub returns-in_default-3 : goal.returns-in_default-3
unfolding slot_by
returns-in_default-3 c = search tests
