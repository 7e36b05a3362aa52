-- The edges of a reading and the moves of an assembly, side by side: the same classes in the same order, and what a move lays are the bytes that the
-- edge's target has more. Then every token leads both on, or neither: by the list.
use Prim.Native.Nat.{ℕ}
use mathlib.Core.Path.{◌≡◌, refl, ap}
use mathlib.Core.Bool.{Bool, true, false}
use Rattle.std.specs.Prelude.{Option, None, Some}
use mathlib.Core.List.{List, [], ◌∷◌, ◌++◌}
use lib.ListN.{length}
use Rattle.text.specs.Token.{Token, Mark}
use Rattle.parsing.specs.Classes.{Class, Said, said}
use Rattle.parsing.specs.Progress.{Progress}
use Rattle.parsing.specs.Edges as reading
use Rattle.parsing.specs.Edges.{Edge, edge}
use Rattle.assembly.specs.declared.Phase.TheVariants.{Stuck}
use Rattle.assembly.specs.declared.Assembly.{Assembly}
use Rattle.assembly.specs.Pieces.{Piece}
use Rattle.assembly.specs.Moves as laying
use Rattle.assembly.specs.Moves.{here, Move, move, Moved, before}
use Rattle.assembled.specs.Holds.{front_of, bytes_of, phase_of, flat_of, Few}
use Rattle.assembled.proofs.Putting.{Alike, put_bytes, put_all}

-- over the bytes bs, the pieces ps lead on to s
pub record Follows (bs : List ℕ) (s : Progress) (a : Assembly) (ps : List Piece) : Type 0 where
  pub same : a ≡ flat_of s
  pub bytes : Alike (put_all ps bs) (bytes_of s)
  pub few : Few s

pub follows : {bs : List ℕ} {at : ℕ} {ps : List Piece} (s : Progress) → at ≡ length (front_of s) → Alike (put_all ps bs) (bytes_of s) → Few s
    → Follows bs s (here at (phase_of s)) ps
follows s e h few = record { same = ap (λ (n : ℕ). here n (phase_of s)) e; bytes = h; few = few }

-- and with no piece
pub stays : {bs : List ℕ} {at : ℕ} (s : Progress) → at ≡ length (front_of s) → Alike bs (bytes_of s) → Few s → Follows bs s (here at (phase_of s)) []
unfolding put_all
stays s e h few = follows s e h few

-- ---- all edges of a phase

pub data Linked (bs : List ℕ) : List Edge → List Move → Type 0 where
  done : Linked bs [] []
  also : {c : Class} {to : Said c → Progress} {at : Said c → Assembly} {pieces : Said c → List Piece} {es : List Edge} {ms : List Move}
      → ((x : Said c) → Follows bs (to x) (at x) (pieces x)) → Linked bs es ms → Linked bs (edge c to ∷ es) (move c at pieces ∷ ms)

-- one that is there only where a test holds
pub also-only : {bs : List ℕ} (b : Bool) (m : Mark) (s : Progress) (a : Assembly) {es : List Edge} {ms : List Move} → (b ≡ true → Follows bs s a [])
    → Linked bs es ms → Linked bs (reading.only b (reading.on m s ∷ []) ++ es) (laying.only b (laying.on m a ∷ []) ++ ms)
also-only true m s a h l = also (λ x. h refl) l
also-only false m s a h l = l

-- ---- a token

-- where no edge leads on, the assembly is stuck
abbrev pub Outcome : List ℕ → Option Progress → Moved → Type 0
Outcome bs None m = m.to.phase ≡ Stuck
Outcome bs (Some s) m = Follows bs s m.to m.pieces

pub linked : {bs : List ℕ} {es : List Edge} {ms : List Move} → Linked bs es ms → (t : Token) → Outcome bs (reading.along es t) (laying.along ms t)
unfolding reading.along reading.by laying.along
linked done t = refl
linked {bs} (also {c} {to} {at} {pieces} {es} {ms} h l) t = go (reading.along es t) (laying.along ms t) (linked l t) (said c t)
  where
    go : (o : Option Progress) (m : Moved) → Outcome bs o m → (x : Option (Said c)) → Outcome bs (reading.by c to o x) (laying.by c at pieces m x)
    go o m k None = k
    go o m k (Some x) = h x

-- what is laid before
pub outcome-before : (q : Piece) (bs : List ℕ) (o : Option Progress) (m : Moved) → Outcome (put_bytes q.place q.bytes bs) o m
    → Outcome bs o (before q m)
unfolding put_all
outcome-before q bs None m h = h
outcome-before q bs (Some s) m h = record { same = h.same; bytes = h.bytes; few = h.few }
