-- `chosen::is_among` meets its contract: the closure's derived equality is the definition's.
use Rattle.std.proofs.Common.{rules, ◌∙◌, eqb}
use Rattle.std.proofs.lemmas.Iterator.{YieldsList-from_slice}
use Rattle.std.proofs.lemmas.Iterator.Search.{any_from_yields_List}
use Rattle.model.specs.declared.FactId.{FactId}
use Rattle.chosen.proofs.Among.{among-any}
use Rattle.chosen.proofs.is_among.Goals as goal

pub returns : goal.returns
returns c =
    any_from_yields_List (λ (j : FactId). eqb j.0 c.args.id.0) _ _ _ c.any.ensures.ran
    (YieldsList-from_slice c.args.ids.now (search rules)) (λ x b q k. search rules)
    ∙ among-any c.args.id c.args.ids.now
