-- `goals::first_zero` meets its contract.
use mathlib.Core.Path.{◌≡◌, ◌∙◌}
use borrow.Author.Rules.{rules}
use borrow.Author.Tests.{tests}
use Rattle.std.proofs.lemmas.Iterator.{IsFirst-from_position, YieldsList-from_slice}
use Rattle.weighing.proofs.Parts.{zero-found}
use Rattle.weighing.proofs.goals.first_zero.Goals as goal

pub returns-in_err-symbol : goal.returns-in_err-symbol
returns-in_err-symbol c =
    let l = c.args.weights.now in
    let f =
    IsFirst-from_position _ _ _ (λ x. x ≡ 0) (λ x. x ≡ 0 → ⊥) c.position.ensures.ran (YieldsList-from_slice l cc) (λ x q k. search (rules, tests))
    (λ x q k. search (rules, tests)) in
    c.from_residual.ensures ∙ (rw c.in_err-symbol.was at (zero-found l _ f))

pub returns : goal.returns
returns c =
    let l = c.args.weights.now in
    let f =
    IsFirst-from_position _ _ _ (λ x. x ≡ 0) (λ x. x ≡ 0 → ⊥) c.position.ensures.ran (YieldsList-from_slice l cc) (λ x q k. search (rules, tests))
    (λ x q k. search (rules, tests)) in
    rw c.in_ok-symbol.was at (zero-found l _ f)
