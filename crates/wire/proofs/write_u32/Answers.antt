-- `wire::write_u32` meets its contract: what stands before, the bytes of the number, and what stands behind.
use Rattle.std.proofs.Common.{◌≡◌, ap, sym, ◌∙◌, arith, ℕ, ◌+◌, ◌-◌, List, ◌++◌, take, drop-drop}
use Rattle.wire.specs.Wire.{bytes4}
use Rattle.wire.proofs.Laws.{put-parts}
use Rattle.wire.proofs.write_u32.Goals as goal

pub returns : goal.returns
unfolding bytes4
returns c =
    let s = c.args.s.now in
    let at = c.args.at in
    let four : at + 4 - at ≡ 4 = omega arith in
    rw (four, c.copy_from_slice.ensures.after, c.to_le_bytes.ensures)
    (ap (λ (l : List ℕ). take at s ++ (bytes4 c.args.n ++ l)) (drop-drop 4 at s) ∙ sym (put-parts s at c.args.n c.requires))
