-- What the laws of numbers speak of: crates/numbers/proofs/Laws.antt has them.
use Rattle.std.specs.Prelude.{◌≡◌, ℤ, ◌≤ℤ◌, Option, Some}
use Rattle.numbers.specs.Numbers.{lowest, highest}

pub record InRange (z : ℤ) : Type 0 where
  pub low : lowest ≤ℤ z
  pub high : z ≤ℤ highest

-- if the value is a number, it lies in the range
pub record Ranged (v : Option ℤ) : Type 0 where
  pub number : (z : ℤ) → v ≡ Some z → InRange z
