-- `variables::mark_slot` meets its contract.
use Rattle.variables.proofs.Marks.{variable-small, variable-marked, other-marked}
use Rattle.variables.proofs.mark_slot.Goals as goal

pub bounds-named-v : goal.bounds-named-v
bounds-named-v c = search variable-small

pub returns-in-Variable : goal.returns-in-Variable
returns-in-Variable c = search variable-marked

pub returns-in_default : goal.returns-in_default
returns-in_default c = other-marked _ _ c.slot_at.ensures _ c.in_default.not-Variable
