-- `Page::put_bytes` meets its contract.
use Prim.Native.Nat.{◌+◌}
use mathlib.Core.Path.{refl, sym}
use native.Mathlib.Omega.{arith}
use Rattle.std.proofs.lemmas.List.{take_more}
use Rattle.text_writing.proofs.Writes.{put-none, put-both}
use Rattle.text_writing.proofs.Page.put_bytes.Goals as goal

pub loop-b-init : goal.loop-b-init
loop-b-init c = put-none c.args.self.now 0 refl

pub loop-b-preserved : goal.loop-b-preserved
loop-b-preserved c =
    put-both c.loop-b.invariant c.put.ensures _ (c.loop-b.b-index + 1) (sym (take_more c.args.bytes.now c.loop-b.b-index 0 c.loop-b-test.true)) (omega arith)
