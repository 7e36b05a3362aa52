-- `terms::slot_used` meets its contract.
use Rattle.text_writing.proofs.Spelled.{used-some, unused-none}
use Rattle.text_writing.proofs.terms.slot_used.Goals as goal

pub returns-in-Constant : goal.returns-in-Constant
returns-in-Constant c = used-some c.args.slot c.in-Constant.is

pub returns-in_default : goal.returns-in_default
returns-in_default c = unused-none c.args.slot c.in_default.not-Constant c.in_default.not-Variable
