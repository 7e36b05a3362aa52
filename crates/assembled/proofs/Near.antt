-- A token leads on by no more than the longest record, a body fact of 46 bytes: by the phase.
use Prim.Native.Nat.{ℕ, ◌+◌, ◌*◌, ◌≤◌}
use mathlib.Core.Bool.{Bool, true, false, cond}
use Rattle.std.specs.Prelude.{Option, None, Some}
use mathlib.Core.List.{List, [], ◌∷◌, ◌++◌}
use native.Mathlib.Omega.{arith}
use lib.Dec.{ltb, eqb}
use Rattle.text.specs.Token.{Token}
use Rattle.parsing.specs.Classes.{Said, said, slash_said}
use Rattle.assembly.specs.declared.Group.{Group}
use Rattle.assembly.specs.declared.Group.TheVariants.{First, Second}
use Rattle.assembly.specs.declared.Side.{Side}
use Rattle.assembly.specs.declared.Side.TheVariants.{Left, Right, Argument}
use Rattle.assembly.specs.declared.Phase.{Phase}
use Rattle.assembly.specs.declared.Phase.TheVariants.{Declared, Named, Slashed, Sized, Ruled, HeadNamed, HeadWants, HeadSlot, HeadDone, HeadNext}
use Rattle.assembly.specs.declared.Phase.TheVariants.{Headed, Wants, Term, Operated, Formed, Body, Emptied, ItemNamed, ItemDone, ItemNext, Stuck}
use Rattle.assembly.specs.declared.Assembly.{Assembly}
use Rattle.assembly.specs.Moves.{Move, move, Moved, only, behind_head, behind_symbol, behind_formula, moves_of, by, along, moved, moved_by, beginning}
use Rattle.assembly.specs.Moves.{slashed_by}

-- every move ends at n or before
abbrev AllNear : ℕ → List Move → Type 0
AllNear n [] = Unit {0}
AllNear n (move c to pieces ∷ ms) = ((x : Said c) → (to x).at ≤ n) × AllNear n ms

along-near : (n : ℕ) (ms : List Move) (t : Token) → AllNear n ms → (along ms t).to.at ≤ n
unfolding along
along-near n [] t h = omega arith
along-near n (move c to pieces ∷ ms) t h = go (along ms t) (along-near n ms t h.1) (said c t)
  where
    go : (m : Moved) → m.to.at ≤ n → (x : Option (Said c)) → (by c to pieces m x).to.at ≤ n
    go m l None = l
    go m l (Some x) = h.0 x

head-near : (n at : ℕ) (g : Group) → at ≤ n → AllNear n (behind_head at g)
head-near n at (First start) h = omega arith
head-near n at Second h = omega arith

only-near : (n : ℕ) (b : Bool) (ms more : List Move) → AllNear n (ms ++ more) → AllNear n more → AllNear n (only b ms ++ more)
only-near n true ms more h k = h
only-near n false ms more h k = k

formula-near : (at : ℕ) (s : Side) → AllNear (at + 46) (behind_formula at s)
formula-near at Left = omega arith
formula-near at Right = omega arith
formula-near at (Argument n) = only-near (at + 46) (ltb n 3) _ _ (omega arith) (omega arith)

wants-near : (at : ℕ) (s : Side) → AllNear (at + 46) (moves_of at (Wants s))
unfolding moves_of
wants-near at Left = omega arith
wants-near at Right = omega arith
wants-near at (Argument n) = omega arith

phase-near : (at : ℕ) (p : Phase) → AllNear (at + 46) (moves_of at p)
unfolding moves_of
phase-near at Declared = omega arith
phase-near at (Named k) = tt
phase-near at Slashed = omega arith
phase-near at Sized = omega arith
phase-near at Ruled = omega arith
phase-near at (HeadNamed g) = ((λ x. omega arith), head-near (at + 46) (at + 22) g (omega arith))
phase-near at (HeadWants g n) = omega arith
phase-near at (HeadSlot g n) = only-near (at + 46) (ltb n 3) _ _ (omega arith) (omega arith)
phase-near at (HeadDone g) = head-near (at + 46) at g (omega arith)
phase-near at (HeadNext g) = omega arith
phase-near at Headed = omega arith
phase-near at (Wants s) = wants-near at s
phase-near at (Term s) = ((λ x. omega arith), formula-near at s)
phase-near at (Operated s) = omega arith
phase-near at (Formed s) = formula-near at s
phase-near at Body = omega arith
phase-near at Emptied = omega arith
phase-near at ItemNamed = omega arith
phase-near at ItemDone = omega arith
phase-near at ItemNext = omega arith
phase-near at Stuck = tt

-- ---- behind a symbol that follows declarations

begins-near : (at k : ℕ) (t : Token) → (beginning at k t).to.at ≤ at + 46
begins-near at k t =
    along-near (at + 46) (behind_symbol (at + 1) (First (at + 1))) t ((λ x. omega arith), head-near (at + 46) (at + 1 + 22) (First (at + 1)) (omega arith))

slashed-near : (at : ℕ) (m : Moved) → m.to.at ≤ at + 46 → (x : Option (Unit {0})) → (slashed_by at m x).to.at ≤ at + 46
slashed-near at m h None = h
slashed-near at m h (Some x) = omega arith

named-near : (at k : ℕ) (t : Token) (b : Bool) → (cond b (slashed_by at (beginning at k t) (slash_said t)) (beginning at k t)).to.at ≤ at + 46
named-near at k t true = slashed-near at (beginning at k t) (begins-near at k t) (slash_said t)
named-near at k t false = begins-near at k t

-- ---- every phase

by-near : (at : ℕ) (p : Phase) (t : Token) → (moved_by at p t).to.at ≤ at + 46
unfolding moved_by
by-near at Declared t = along-near (at + 46) (moves_of at Declared) t (phase-near at Declared)
by-near at (Named k) t = named-near at k t (eqb (2 * k) at)
by-near at Slashed t = along-near (at + 46) (moves_of at Slashed) t (phase-near at Slashed)
by-near at Sized t = along-near (at + 46) (moves_of at Sized) t (phase-near at Sized)
by-near at Ruled t = along-near (at + 46) (moves_of at Ruled) t (phase-near at Ruled)
by-near at (HeadNamed g) t = along-near (at + 46) (moves_of at (HeadNamed g)) t (phase-near at (HeadNamed g))
by-near at (HeadWants g n) t = along-near (at + 46) (moves_of at (HeadWants g n)) t (phase-near at (HeadWants g n))
by-near at (HeadSlot g n) t = along-near (at + 46) (moves_of at (HeadSlot g n)) t (phase-near at (HeadSlot g n))
by-near at (HeadDone g) t = along-near (at + 46) (moves_of at (HeadDone g)) t (phase-near at (HeadDone g))
by-near at (HeadNext g) t = along-near (at + 46) (moves_of at (HeadNext g)) t (phase-near at (HeadNext g))
by-near at Headed t = along-near (at + 46) (moves_of at Headed) t (phase-near at Headed)
by-near at (Wants s) t = along-near (at + 46) (moves_of at (Wants s)) t (phase-near at (Wants s))
by-near at (Term s) t = along-near (at + 46) (moves_of at (Term s)) t (phase-near at (Term s))
by-near at (Operated s) t = along-near (at + 46) (moves_of at (Operated s)) t (phase-near at (Operated s))
by-near at (Formed s) t = along-near (at + 46) (moves_of at (Formed s)) t (phase-near at (Formed s))
by-near at Body t = along-near (at + 46) (moves_of at Body) t (phase-near at Body)
by-near at Emptied t = along-near (at + 46) (moves_of at Emptied) t (phase-near at Emptied)
by-near at ItemNamed t = along-near (at + 46) (moves_of at ItemNamed) t (phase-near at ItemNamed)
by-near at ItemDone t = along-near (at + 46) (moves_of at ItemDone) t (phase-near at ItemDone)
by-near at ItemNext t = along-near (at + 46) (moves_of at ItemNext) t (phase-near at ItemNext)
by-near at Stuck t = omega arith

pub moved-near : (a : Assembly) (t : Token) → (moved a t).to.at ≤ a.at + 46
unfolding moved
moved-near a t = by-near a.at a.phase t
