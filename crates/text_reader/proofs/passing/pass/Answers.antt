-- `passing::pass` meets its contract. The invariant: what is left of the tokens, read from here, gives what the text is.
use mathlib.Core.Path.{refl, ap, ◌∙◌}
use Rattle.std.proofs.Common.{rules}
use Rattle.std.specs.Prelude.{Some}
use Rattle.std.proofs.lemmas.Result.{err_from_is_err_and}
use Rattle.text_reader.proofs.Passes.{reads-begin, reads-near, reads-end, reads-strange, reads-wrong, reads-more}
use Rattle.text_reader.proofs.passing.pass.Goals as goal

pub loop-next-init : goal.loop-next-init
loop-next-init c = (reads-begin refl refl refl c.start-a.ensures c.requires.blank, refl)

pub returns-in_err-place : goal.returns-in_err-place
returns-in_err-place c =
    let p = err_from_is_err_and c.from_residual.result c.from_residual.ensures.1 in
    rw (p.1, p.2) (reads-strange c.requires.short c.loop-next.invariant.0 c.next.ensures (c.in-Some.is ∙ ap Some c.in_err-place.was))

pub advance-to-requires : goal.advance-to-requires
advance-to-requires c = reads-near c.requires.short c.loop-next.invariant.0

pub returns-then-is_stuck : goal.returns-then-is_stuck
returns-then-is_stuck c =
    reads-wrong c.requires.short c.loop-next.invariant.0 c.next.ensures (c.in-Some.is ∙ ap Some c.in_ok-place.was) c.advance-to.ensures
    c.is_stuck.ensures c.if-is_stuck.true c.wrong_from.ensures

pub loop-next-preserved : goal.loop-next-preserved
loop-next-preserved c = (
  reads-more c.requires.short c.loop-next.invariant.0 c.next.ensures (c.in-Some.is ∙ ap Some c.in_ok-place.was) c.advance-to.ensures
      c.is_stuck.ensures c.if-is_stuck.false,
  search rules,
)

pub returns : goal.returns
returns c =
    reads-end c.requires.short c.loop-next.invariant.0 c.next.ensures c.in_default.is c.finish.ensures
    (λ n e. rw e at c.ok_or.ensures.value) (λ e. rw (e, c.at.ensures) at c.ok_or.ensures.value)
