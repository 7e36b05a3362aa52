-- `expressions::place_of` meets its contract.
use mathlib.Core.Path.{refl}
use native.Mathlib.Omega.{arith}
use Rattle.assembly.specs.Moves.{moves_of}
use Rattle.assembly.proofs.expressions.place_of.Goals as goal

pub returns-in-Left : goal.returns-in-Left
unfolding moves_of
returns-in-Left c = rw c.in-Left.is (record { same = refl; near = omega (arith, c.requires) })

pub returns-in-Right : goal.returns-in-Right
unfolding moves_of
returns-in-Right c = rw c.in-Right.is (record { same = refl; near = omega (arith, c.requires) })

pub returns-in-Argument : goal.returns-in-Argument
unfolding moves_of
returns-in-Argument c = rw c.in-Argument.is (record { same = refl; near = omega (arith, c.requires) })
