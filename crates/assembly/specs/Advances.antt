-- What an advance comes to.
use Rattle.std.specs.Prelude.{ℕ, ◌≤◌, ◌≡◌, List, []}
use Rattle.tokens.specs.declared.Token.{Token as CodeToken}
use Rattle.tokens.specs.Views.{token_of}
use Rattle.assembly.specs.declared.Assembly.{Assembly}
use Rattle.assembly.specs.declared.Group.{Group}
use Rattle.assembly.specs.declared.Group.TheVariants.{First, Second}
use Rattle.assembly.specs.declared.Phase.{Phase}
use Rattle.assembly.specs.declared.Phase.TheVariants.{Declared, Named, Slashed, Sized, Ruled, HeadNamed, HeadWants, HeadSlot, HeadDone, HeadNext}
use Rattle.assembly.specs.declared.Phase.TheVariants.{Headed, Wants, Term, Operated, Formed, Body, Emptied, ItemNamed, ItemDone, ItemNext, Stuck}
use Rattle.assembly.specs.declared.Side.{Side}
use Rattle.assembly.specs.Pieces.{lay_all}
use Rattle.assembly.specs.Moves.{Move, Moved, moving, along, beginning, moved_named, place_of}

-- a place in the table: a text of 65,536 bytes stands for far less
pub record Near (at : ℕ) : Type 0 where
  pub near : at ≤ 4294967296

-- the assembly and the bytes behind a move
pub record Advanced (m : Moved) (before : List ℕ) (r : Assembly) (after : List ℕ) : Type 0 where
  pub to : r ≡ m.to
  pub bytes : after ≡ lay_all m.pieces before

-- the token moves on to r, by the first of these moves that it makes, and lays its pieces
abbrev pub Goes : CodeToken → List Move → List ℕ → Assembly → List ℕ → Type 0
Goes t ms before r after = Advanced (along ms (token_of t)) before r after

-- the same, where no piece is laid
abbrev pub Stays : CodeToken → List Move → Assembly → Type 0
Stays t ms r = along ms (token_of t) ≡ moving r []

-- where a group of heads begins is near, too
abbrev pub GroupNear : Group → Type 0
GroupNear (First start) = start ≤ 8589934592
GroupNear Second = Unit {0}

-- behind a symbol before the first rule
abbrev pub Begins : ℕ → ℕ → CodeToken → List ℕ → Assembly → List ℕ → Type 0
Begins at k t before r after = Advanced (beginning at k (token_of t)) before r after

abbrev pub NamedGoes : ℕ → ℕ → CodeToken → List ℕ → Assembly → List ℕ → Type 0
NamedGoes at k t before r after = Advanced (moved_named at k (token_of t)) before r after

-- the places that a phase holds are near
abbrev pub GroupIn : Phase → Group
GroupIn Declared = Second
GroupIn (Named k) = Second
GroupIn Slashed = Second
GroupIn Sized = Second
GroupIn Ruled = Second
GroupIn (HeadNamed g) = g
GroupIn (HeadWants g n) = g
GroupIn (HeadSlot g n) = g
GroupIn (HeadDone g) = g
GroupIn (HeadNext g) = g
GroupIn Headed = Second
GroupIn (Wants s) = Second
GroupIn (Term s) = Second
GroupIn (Operated s) = Second
GroupIn (Formed s) = Second
GroupIn Body = Second
GroupIn Emptied = Second
GroupIn ItemNamed = Second
GroupIn ItemDone = Second
GroupIn ItemNext = Second
GroupIn Stuck = Second

pub record PhaseNear (at : ℕ) (phase : Phase) : Type 0 where
  pub near : at ≤ 4294967296
  pub group : GroupNear (GroupIn phase)

-- where the expression of a side begins
pub record PlaceIs (at : ℕ) (s : Side) (p : ℕ) : Type 0 where
  pub same : p ≡ place_of at s
  pub near : p ≤ 4294971000
