-- `Item::put` meets its contract.
use mathlib.Core.Path.{sym, ◌∙◌}
use Rattle.records.proofs.PartsLie.{fact-lies}
use Rattle.rule_writing.proofs.Pieces.{item-of-fact, item-of-fail}
use Rattle.rule_writing.proofs.parts.ItemPart.put.Goals as goal

pub put_fact-requires-clause-lies : goal.put_fact-requires-clause-lies
put_fact-requires-clause-lies c = fact-lies c.args.table.now c.args.p c.requires.lies.1.0 (sym c.is_fact.ensures ∙ c.if-is_fact.true)

pub returns-then-is_fact-clause-written : goal.returns-then-is_fact-clause-written
returns-then-is_fact-clause-written c = item-of-fact c.args.table.now c.args.p c.is_fact.ensures c.if-is_fact.true c.put_fact.ensures

pub returns-else-is_fact-clause-written : goal.returns-else-is_fact-clause-written
returns-else-is_fact-clause-written c = item-of-fail c.args.table.now c.args.p c.is_fact.ensures c.if-is_fact.false c.put_bytes.ensures
