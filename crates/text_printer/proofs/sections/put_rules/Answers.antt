-- `sections::put_rules` meets its contract.
use native.Mathlib.Omega.{arith}
use Rattle.grammar.specs.Layout.{tree_of}
use Rattle.rule_weights.proofs.Turns.{few-rules}
use Rattle.text_printer.proofs.Walks.{left-none, left-more, shape-printable, one-ruled, all-ruled, rules-written}
use Rattle.text_printer.proofs.sections.put_rules.Goals as goal

pub shared_ref_as_front-shape-items : goal.shared_ref_as_front-shape-items
shared_ref_as_front-shape-items c = few-rules c.requires.good

pub put_rule-requires-clause-rule : goal.put_rule-requires-clause-rule
put_rule-requires-clause-rule c = shape-printable c.requires.good c.loop-shape-test.true

pub loop-shape-preserved : goal.loop-shape-preserved
loop-shape-preserved c = left-more c.loop-shape.invariant c.put_rule.ensures (omega arith) _ (one-ruled c.requires.good c.loop-shape-test.true)

pub returns : goal.returns
unfolding tree_of
returns c =
    let k = c.requires.good in
    left-none c.loop-shape.invariant (rules-written k c.loop-shape.auto.shape-index-end c.loop-shape-test.false) (all-ruled k c.loop-shape-test.false)
