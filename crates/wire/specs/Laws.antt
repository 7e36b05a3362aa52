-- What the laws of words speak of: crates/wire/proofs/Laws.antt has them.
use Rattle.std.specs.Prelude.{List, ℕ, ◌<◌}
use Rattle.wire.specs.Wire.{byte_at}

-- every byte of s is one
pub record Bytes (s : List ℕ) : Type 0 where
  pub below : (i : ℕ) → byte_at s i < 256
