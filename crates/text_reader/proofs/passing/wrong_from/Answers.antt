-- `passing::wrong_from` meets its contract.
use mathlib.Core.Path.{refl, ap, ◌∙◌}
use Rattle.std.specs.Prelude.{Some}
use Rattle.text_reader.proofs.Passes.{left-begins, left-done, left-strange, left-more}
use Rattle.text_reader.proofs.passing.wrong_from.Goals as goal

pub loop-next-init : goal.loop-next-init
loop-next-init c = left-begins _

pub returns-in-Err : goal.returns-in-Err
returns-in-Err c = left-strange c.loop-next.invariant c.next.ensures (c.in-Some.is ∙ ap Some c.in-Err.is)

pub loop-next-preserved : goal.loop-next-preserved
loop-next-preserved c = left-more c.loop-next.invariant c.next.ensures (c.in-Some.is ∙ ap Some c.in_default-next.is)

pub returns : goal.returns
returns c = left-done c.loop-next.invariant c.next.ensures c.in_default.is refl
