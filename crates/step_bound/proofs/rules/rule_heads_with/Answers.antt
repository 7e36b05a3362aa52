-- `rules::rule_heads_with` meets its contract.
use borrow.Author.Rules.{rules}
use Rattle.rule_weights.proofs.Parts.{heads-counted}
use Rattle.step_bound.proofs.Parts.{is, is-counted}
use Rattle.step_bound.proofs.Turns.{rule-with}
use Rattle.step_bound.proofs.rules.rule_heads_with.Goals as goal

pub returns : goal.returns
returns c =
    let l = c.args.rule.now.lies in
    rule-with l c.args.symbol c.head_start-from.ensures
    (heads-counted _ _ _ _ 1 l.few_heads c.from-heads.ensures
    (c.sum_over.ensures (is c.args.symbol) 1 (record { each = λ s r h g p. is-counted _ _ (search rules) })))
