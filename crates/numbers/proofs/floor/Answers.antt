-- `numbers::floor` meets its contract: the turns before and after the division are those of the definition (Rounding). Assumes nothing.
use Rattle.std.proofs.Common.{ap, ◌∙◌, to_z-of_z}
use lib.IntN.{nat_abs}
use Rattle.numbers.proofs.Rounding.{dividend-is, quotient-plain, floored}
use Rattle.numbers.proofs.floor.Goals as goal

pub returns : goal.returns
returns c =
    let f = c.ranges in
    let t = c.turned-up.ensures in
    let n = dividend-is f.a f.b t c.mirrored-dividend.ensures in
    let d = c.unsigned_abs-divisor.ensures.value ∙ ap nat_abs (to_z-of_z f.b) in
    floored f.a f.b t (quotient-plain n d) c.mirrored.ensures
