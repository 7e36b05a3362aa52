-- `history::recorded` meets its contract: the derived equality is the definition's.
use Rattle.std.proofs.Common.{refl, ◌∙◌}
use Rattle.history.proofs.Among.{noted-any}
use Rattle.history.proofs.recorded.Goals as goal

pub returns : goal.returns
returns c = c.contains.ensures.value ∙ noted-any _ (λ d e. refl) c.args.fired c.args.past.now
