-- The answer's bytes: "kind 17 records by rising identifier, then bytes as they were".
use Rattle.std.specs.Prelude.{ℕ, ◌*◌, List, [], ◌∷◌, ◌++◌, ℤ, pos, length, get_or, drop}
use Rattle.model.specs.declared.Fact.{Fact}
use Rattle.model.specs.declared.Stored.{Stored}
use Rattle.wire.specs.Wire.{bytes4, bits_of}

-- a fact's argument k
abbrev pub argument : Fact → ℕ → ℤ
argument f k = get_or f.arguments k (pos 0)

-- "stored fact: identifier (4), symbol, four arguments"
unfoldable pub stored_bytes : Stored → List ℕ
stored_bytes s =
    17
    ∷ (bytes4 s.id.0
    ++ (s.fact.symbol.0
    ∷ (bytes4 (bits_of (argument s.fact 0))
    ++ (bytes4 (bits_of (argument s.fact 1)) ++ (bytes4 (bits_of (argument s.fact 2)) ++ bytes4 (bits_of (argument s.fact 3)))))))

unfoldable pub answer_bytes : List Stored → List ℕ
answer_bytes [] = []
answer_bytes (s ∷ ss) = stored_bytes s ++ answer_bytes ss

unfoldable pub answered : List Stored → List ℕ → List ℕ
answered ss buffer = answer_bytes ss ++ drop (22 * length ss) buffer
