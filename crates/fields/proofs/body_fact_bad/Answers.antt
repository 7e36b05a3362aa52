-- `fields::body_fact_bad` meets its contract.
use Rattle.records.proofs.Tests.{told}
use Rattle.model.specs.Fields.{body_fact_bad}
use Rattle.fields.proofs.body_fact_bad.Goals as goal

pub returns-then-symbols-symbol : goal.returns-then-symbols-symbol
unfolding body_fact_bad
returns-then-symbols-symbol c = rw (← c.arity_at-arity.ensures) (search told)

pub returns-else-symbols-symbol : goal.returns-else-symbols-symbol
unfolding body_fact_bad
returns-else-symbols-symbol c = rw (← c.arity_at-arity.ensures) (search told)
