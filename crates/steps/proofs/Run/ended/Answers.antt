use mathlib.Core.Path.{◌≡◌, refl, ◌∙◌}
use Prim.Native.Nat.{suc, ◌-◌}
use native.Mathlib.Omega.{arith}
use lib.Seq.{length-take-le}
use Rattle.model.specs.Run.{ended_as}
use Rattle.steps.proofs.Run.ended.Goals as goal

pub returns : goal.returns
unfolding ended_as
returns c =
    let r = c.args.self.now in
    let given : suc r.given - 1 ≡ r.given = omega arith in
    c.new.ensures ∙ rw (given, length-take-le r.store.len r.store.places.now r.store.fits) refl
