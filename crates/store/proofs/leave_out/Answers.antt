-- `store::leave_out` meets its contract: the closure is the definition's test.
use Rattle.std.proofs.Common.{rules, not}
use Rattle.model.specs.declared.Stored.{Stored}
use Rattle.model.specs.Search.{is_among}
use Rattle.model.specs.Steps.{without}
use Rattle.store.proofs.leave_out.Goals as goal

pub returns-clause-left : goal.returns-clause-left
unfolding without
returns-clause-left c = c.retain.ensures.kept (λ (s : Stored). not (is_among s.id c.args.gone.now)) (λ x r k. search rules)
