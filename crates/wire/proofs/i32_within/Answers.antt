-- `wire::i32_within` meets its contract, by those of the two functions that it calls.
use Rattle.std.proofs.Common.{ap, ◌∙◌, SFits, to_z-of_z}
use Rattle.std.specs.Int.{w32}
use Rattle.wire.specs.Wire.{signed_of, i32_at}
use Rattle.wire.proofs.i32_within.Goals as goal

pub returns : goal.returns
unfolding i32_at
returns c =
    let fits : SFits w32 c.signed.result = record { sfits = c.signed.type_inv } in
    to_z-of_z fits ∙ c.signed.ensures ∙ ap signed_of c.u32_within.ensures
