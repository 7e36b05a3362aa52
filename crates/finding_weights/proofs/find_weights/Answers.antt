-- `find_weights` meets its contract.
use Rattle.finding_weights.proofs.Finding.{told-found, told-refused}
use Rattle.finding_weights.proofs.find_weights.Goals as goal

pub returns-in-Ok : goal.returns-in-Ok
returns-in-Ok c = told-found c.try_find.ensures c.in-Ok.is c.refusal.ensures

pub returns-in-Err : goal.returns-in-Err
returns-in-Err c = told-refused c.try_find.ensures c.in-Err.is c.into.ensures
