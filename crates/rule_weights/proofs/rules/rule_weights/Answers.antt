-- `rules::rule_weights` meets its contract.
use native.Mathlib.Omega.{arith}
use borrow.Author.Rules.{rules}
use Rattle.rule_weights.proofs.Parts.{byte-counted, heads-counted}
use Rattle.rule_weights.proofs.Turns.{rule-weighs}
use Rattle.rule_weights.proofs.rules.rule_weights.Goals as goal

pub returns : goal.returns
returns c =
    let l = c.args.rule.now.lies in
    rule-weighs l _ c.from.ensures c.head_start-from.ensures
    (heads-counted _ _ _ _ 255 (omega (arith, l.few_heads)) c.from-2.ensures
    (c.sum_over-removed.ensures _ 255 (record { each = λ s r h g p. byte-counted (search rules) g })))
    c.items_start-items.ensures (c.sum_over-body.ensures _ 255 (record { each = λ s r h g p. byte-counted (search rules) g }))
