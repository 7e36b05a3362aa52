-- What it means that parts of a rule lie in the table's bytes.
use Rattle.std.specs.Prelude.{ℕ, zero, suc, ◌≤◌, ◌<◌, List, length}
use Rattle.model.specs.Table.{behind_item}

-- n body items from p on lie in the table
abbrev pub ItemsLie : List ℕ → ℕ → ℕ → Type 0
ItemsLie t p zero = Unit {0}
ItemsLie t p (suc n) = (p < length t) × ((behind_item t p ≤ length t) × ItemsLie t (behind_item t p) n)
