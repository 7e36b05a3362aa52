-- Reading an answer back: "17 stored fact: identifier (4), symbol, four arguments".
use Rattle.std.specs.Prelude.{ℕ, zero, suc, ◌+◌, true, false, List, [], ◌∷◌, eqb, get_or}
use Rattle.model.specs.declared.Stored.{Stored}
use Rattle.model.specs.Table.{symbol_at}
use Rattle.wire.specs.Wire.{u32_at, i32_at}

-- the stored fact at its kind byte
unfoldable pub stored_at : List ℕ → ℕ → Stored
stored_at a p = record {
  id = record { 0 = u32_at a (p + 1) };
  fact = record { symbol = symbol_at a (p + 5); arguments = i32_at a (p + 6) ∷ i32_at a (p + 10) ∷ i32_at a (p + 14) ∷ i32_at a (p + 18) ∷ [] };
}

-- n records of 22 bytes, from p on, as long as they are of kind 17
unfoldable pub answer_from : List ℕ → ℕ → ℕ → List Stored
answer_from a p zero = []
answer_from a p (suc n) = elim (eqb (get_or a p 0) 17) [ true ↦ stored_at a p ∷ answer_from a (p + 22) n | false ↦ [] ]

-- the facts of an answer that has n of them
unfoldable pub read_answer : ℕ → List ℕ → List Stored
read_answer n a = answer_from a 0 n
