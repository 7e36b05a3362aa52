-- The definition at small inputs, worked: the end record's own byte counts, a byte 8 inside a record does not end the table, and without an end
-- record, or with a kind that no table has, the whole input is the table.
use Prim.Native.Nat.{ℕ}
use mathlib.Core.Path.{◌≡◌, refl}
use mathlib.Core.List.{List, [], ◌∷◌, map}
use Rattle.model.specs.Records.{kind_of}
use Rattle.run_input.specs.Input.{end_at, end_from, table_end}

abbrev inputs : List (List ℕ)
inputs =
    []
    ∷ (8 ∷ 16 ∷ [])
    ∷ (1 ∷ 8 ∷ 8 ∷ 16 ∷ [])
    ∷ (1 ∷ 2 ∷ [])
    ∷ (99 ∷ 8 ∷ 16 ∷ [])
    ∷ []

pub worked : map table_end inputs ≡ 0 ∷ 1 ∷ 3 ∷ 2 ∷ 3 ∷ []
unfolding table_end end_from end_at kind_of
worked = refl
