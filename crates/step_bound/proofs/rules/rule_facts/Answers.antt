-- `rules::rule_facts` meets its contract.
use borrow.Author.Rules.{rules}
use Rattle.step_bound.proofs.Turns.{rule-facts}
use Rattle.step_bound.proofs.rules.rule_facts.Goals as goal

pub returns : goal.returns
returns c =
    rule-facts c.args.rule.now.lies c.items_start-from.ensures
    (c.sum_over.ensures (λ s. 1) 1 (record { each = λ s r h g p. record { same = search rules; few = search rules } }))
