-- `records::geometry::arity_at` meets its contract.
use Rattle.model.specs.Fields.{arity_at}
use Rattle.records.proofs.geometry.arity_at.Goals as goal

pub returns : goal.returns
unfolding arity_at
returns c = cc
