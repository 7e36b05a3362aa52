-- `numbers::remainder` meets its contract: by 0 there is none, and by any other number it is what the quotient leaves; at 64 bits neither the product nor
-- the difference can wrap. Assumes nothing.
use mathlib.Core.Path.{sym, ◌∙◌}
use Rattle.numbers.specs.Numbers.{remainder_of}
use Rattle.numbers.proofs.Machine.{by-other}
use Rattle.numbers.proofs.Rounding.{product-fits, rest-fits, remainder-exact}
use Rattle.numbers.proofs.remainder.Goals as goal

pub overflow_mul-product : goal.overflow_mul-product
overflow_mul-product c = let f = c.ranges in rw c.from.ensures (product-fits f.a f.b c.floor.ensures)

pub overflow_sub-from : goal.overflow_sub-from
overflow_sub-from c = let f = c.ranges in rw (c.from.ensures, c.from-2.ensures) (rest-fits f.a f.b c.floor.ensures)

pub returns : goal.returns
unfolding remainder_of
returns c =
    let f = c.ranges in
    c.narrow.ensures
    ∙ rw (c.from.ensures, c.from-2.ensures) (remainder-exact f.a f.b c.floor.ensures ∙ sym (by-other _ f.b c.if-b-eq0.false))
