-- Bytes that are laid into others, from a place on. Past the end nothing is laid.
use Rattle.std.specs.Prelude.{ℕ, suc, List, [], ◌∷◌, set}

unfoldable pub lay : ℕ → List ℕ → List ℕ → List ℕ
lay p [] s = s
lay p (b ∷ bs) s = lay (suc p) bs (set s p b)

pub record Piece : Type 0 where
  pub place : ℕ
  pub bytes : List ℕ

abbrev pub piece : ℕ → List ℕ → Piece
piece p bs = record { place = p; bytes = bs }

-- one piece after the other
unfoldable pub lay_all : List Piece → List ℕ → List ℕ
lay_all [] s = s
lay_all (x ∷ xs) s = lay_all xs (lay x.place x.bytes s)
