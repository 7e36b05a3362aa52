-- The definition: where the table ends that an input begins with. "the table ends at its first end record", found record by record,
-- since a byte 8 may stand inside a record; where there is none, the whole input is the table.
use Rattle.std.specs.Prelude.{ℕ, Option, Some, None, zero, suc, ◌+◌, ◌≤◌, ◌≡◌, cond, List, leb, eqb, length, get_or}
use Rattle.model.specs.declared.Kind.{Kind}
use Rattle.model.specs.Records.{kind_of, size_of}

-- how long a record is: 0 where no table has the kind
abbrev pub known_size : Option Kind → ℕ
known_size None = 0
known_size (Some k) = size_of k

-- how long the record at p is
abbrev pub size_at : List ℕ → ℕ → ℕ
size_at t p = known_size (kind_of (get_or t p 0))

-- from the record at p on, where `more` answers for the record behind it
unfoldable pub end_at : List ℕ → ℕ → (ℕ → ℕ) → ℕ
end_at t p more =
    cond (leb (length t) p) (length t)
    (cond (eqb (get_or t p 0) 8) (p + 1)
    (cond (eqb (size_at t p) 0) (length t)
    (more (p + size_at t p))))

-- at most n records from p on. Each takes a byte at least, so that as many as the input has bytes are enough
unfoldable pub end_from : ℕ → List ℕ → ℕ → ℕ
end_from zero t p = length t
end_from (suc n) t p = end_at t p (end_from n t)

unfoldable pub table_end : List ℕ → ℕ
table_end t = end_from (length t) t 0

-- what `table_end` answers
pub record EndsAt (t : List ℕ) (r : ℕ) : Type 0 where
  pub is : r ≡ table_end t
  pub within : r ≤ length t
