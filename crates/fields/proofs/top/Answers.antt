-- `fields::top` meets its contract.
use Rattle.model.specs.Fields.{top_of}
use Rattle.fields.proofs.top.Goals as goal

pub returns-then-used : goal.returns-then-used
unfolding top_of
returns-then-used c = cc

pub returns-else-used : goal.returns-else-used
unfolding top_of
returns-else-used c = cc
