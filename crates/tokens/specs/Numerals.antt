-- The number that n digits say, as the code counts it: in 32 bits, and with n.
use Rattle.std.specs.Prelude.{ℕ, Option, Some, None, ◌&&◌, cond, List, leb}
use Rattle.text.specs.Spelling.{digits, value}

unfoldable pub magnitude_of : ℕ → List ℕ → Option (ℕ × ℕ)
magnitude_of n bs = cond (digits n bs && leb (value n bs) 4294967295) (Some (value n bs, n)) None
