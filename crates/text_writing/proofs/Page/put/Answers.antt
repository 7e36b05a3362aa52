-- `Page::put` meets its contract: past the buffer's end nothing is stored.
use mathlib.Core.Path.{refl, sym}
use native.Mathlib.Omega.{arith}
use lib.Seq.{set_out}
use Rattle.text_writing.specs.Written.{written}
use Rattle.text_writing.proofs.Page.put.Goals as goal
use Rattle.text_writing.proofs.Page.put.Goals.{then-self, else-self}

pub returns : goal.returns
unfolding written
returns c =
    elim c.if-self.branch [
      | then-self w ↦ rw w.self-is (record { place = refl; same = refl; few = omega arith; buffer = refl })
      | else-self w ↦ rw w.self-is (record { place = refl; same = sym (set_out _ _ _ w.if-self.false); few = omega arith; buffer = refl })
    ]
