-- `history::names` meets its contract: the closure is the definition's test.
use Rattle.std.proofs.Common.{rules, ◌∙◌}
use Rattle.std.proofs.lemmas.Iterator.{YieldsList-from_slice}
use Rattle.std.proofs.lemmas.Iterator.Search.{any_from_yields_List}
use Rattle.model.specs.declared.FactId.{FactId}
use Rattle.model.specs.Search.{is_among}
use Rattle.history.proofs.Among.{names-any}
use Rattle.history.proofs.names.Goals as goal

pub returns : goal.returns
returns c =
    any_from_yields_List (λ (i : FactId). is_among i c.args.gone.now) _ _ _ c.any.ensures.ran
    (YieldsList-from_slice c.args.fired.now.ids (search rules)) (λ x b q k. search rules)
    ∙ names-any c.args.gone.now c.args.fired.now.ids
