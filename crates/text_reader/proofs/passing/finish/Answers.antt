-- `passing::finish` meets its contract.
use Rattle.text_reader.proofs.Passes.{finish-there}
use Rattle.text_reader.proofs.passing.finish.Goals as goal

pub returns : goal.returns
returns c = finish-there c.may_end.ensures c.if-not-may_end.false c.put.ensures
