-- `fact_count` meets its contract.
use borrow.Author.Rules.{rules}
use mathlib.Core.Path.{sym}
use Rattle.model.proofs.Decoded.{goal-length}
use Rattle.step_bound.proofs.fact_count.Goals as goal

pub returns : goal.returns
returns c = record { same = sym (goal-length _); few = search rules }
