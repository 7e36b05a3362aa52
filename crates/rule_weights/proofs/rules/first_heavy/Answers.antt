-- `rules::first_heavy` meets its contract.
use mathlib.Core.Bool.{true, false}
use borrow.Author.Rules.{rules}
use borrow.Author.Tests.{tests}
use Rattle.std.proofs.lemmas.Iterator.{first_from_Range}
use Rattle.model.specs.Weights.{weight_in}
use Rattle.rule_weights.proofs.Turns.{Loses, heavy-found}
use Rattle.rule_weights.proofs.rules.first_heavy.Goals as goal

pub returns : goal.returns
returns c =
    let k = c.args.table.now.known in
    let w = weight_in c.args.weights.now in
    let f =
    first_from_Range _ _ _ _ (λ i. Loses k w i false) (λ i. Loses k w i true) c.find.ensures.ran (λ x q p. search (rules, tests))
    (λ x q p. search (rules, tests)) in
    heavy-found k w _ f _ c.map.ensures.cases (λ n x p. search rules)
