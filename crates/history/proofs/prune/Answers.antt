-- `history::prune` meets its contract: the closure is the definition's test.
use Rattle.std.proofs.Common.{rules, not}
use Rattle.model.specs.declared.Fired.{Fired}
use Rattle.model.specs.Steps.{names, pruned}
use Rattle.history.proofs.prune.Goals as goal

pub returns-clause-left : goal.returns-clause-left
unfolding pruned
returns-clause-left c = c.retain.ensures.kept (λ (f : Fired). not (names f.ids c.args.gone.now)) (λ x r k. search rules)
