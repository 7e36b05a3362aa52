-- `numerals::magnitude` meets its contract.
use native.Mathlib.Omega.{arith}
use mathlib.Core.Path.{◌∙◌}
use Rattle.tokens.proofs.DigitReads.{magnitude_begins, letter, ended, too_large, one_more, all_read}
use Rattle.tokens.proofs.numerals.magnitude.Goals as goal

pub loop-count-init : goal.loop-count-init
loop-count-init c = magnitude_begins c.args.rest.now

pub returns-then-is_word_byte-clause-value : goal.returns-then-is_word_byte-clause-value
returns-then-is_word_byte-clause-value c =
    letter c.args.rest.now c.loop-count.count c.loop-count.value c.loop-count-test.true c.loop-count.invariant c.if-not-is_ascii_digit.ensures.value
    c.if-is_word_byte.ensures

pub returns-else-is_word_byte-clause-value : goal.returns-else-is_word_byte-clause-value
returns-else-is_word_byte-clause-value c =
    ended c.args.rest.now c.loop-count.count c.loop-count.value c.loop-count-test.true c.loop-count.invariant c.if-not-is_ascii_digit.ensures.value
    c.if-is_word_byte.ensures

pub returns-in_err-checked_mul-clause-value : goal.returns-in_err-checked_mul-clause-value
returns-in_err-checked_mul-clause-value c =
    c.from_residual.ensures
    ∙ too_large c.args.rest.now c.loop-count.count c.loop-count.value c.loop-count-test.true c.loop-count.invariant c.if-not-is_ascii_digit.ensures.value
    (omega (arith, c.in_err-checked_mul.ensures))

pub returns-in_err-value-clause-value : goal.returns-in_err-value-clause-value
returns-in_err-value-clause-value c =
    c.from_residual-in_err-value.ensures
    ∙ too_large c.args.rest.now c.loop-count.count c.loop-count.value c.loop-count-test.true c.loop-count.invariant c.if-not-is_ascii_digit.ensures.value
    (omega (arith, c.in_err-value.ensures, c.in_ok-checked_mul.ensures))

pub loop-count-preserved : goal.loop-count-preserved
loop-count-preserved c =
    one_more c.args.rest.now c.loop-count.count c.loop-count.value c.loop-count-test.true c.loop-count.invariant c.if-not-is_ascii_digit.ensures.value
    (omega (arith, c.in_ok-value.ensures, c.in_ok-checked_mul.ensures)) (omega arith)

pub returns-clause-value : goal.returns-clause-value
returns-clause-value c =
    all_read c.args.rest.now c.loop-count.count c.loop-count.value (omega (arith, c.loop-count-test.false)) c.loop-count.invariant
