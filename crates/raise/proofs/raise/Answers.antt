-- `raise` meets its contract.
use mathlib.Core.Path.{ap, ◌∙◌}
use native.Mathlib.Omega.{arith}
use borrow.Author.Rules.{rules}
use Rattle.raise.specs.Raise.{to}
use Rattle.raise.proofs.Raising.{fits, above, raise-none, raise-above, raise-to}
use Rattle.raise.proofs.raise.Goals as goal

pub returns-then-shape : goal.returns-then-shape
returns-then-shape c = search (raise-none, rules)

pub returns-in_err-weight : goal.returns-in_err-weight
returns-in_err-weight c =
    c.from_residual.ensures
    ∙ raise-above _ _ _ {b = record { 0 = c.byte.result }} c.args.rule.now.lies c.if-shape.false c.rule_weights-sides.ensures c.saturating_sub-lack.ensures
    c.from.ensures c.head_start-from.ensures c.byte.ensures (c.from-2.ensures ∙ c.weight_of.ensures)
    (above _ _ c.try_from.ensures c.in_err-weight.ensures.value)

pub returns : goal.returns
returns c =
    let f = fits _ _ _ c.try_from.ensures c.in_ok-weight.ensures.value in
    ap (to c.byte.result) f.0
    ∙ raise-to _ _ _ {b = record { 0 = c.byte.result }} c.args.rule.now.lies c.if-shape.false c.rule_weights-sides.ensures c.saturating_sub-lack.ensures
    c.from.ensures c.head_start-from.ensures c.byte.ensures (c.from-2.ensures ∙ c.weight_of.ensures) (omega (arith, f.1))
