-- The published semantics, for ground facts over whole numbers and fail as the only built-in (docs/SEMANTICS.md).
pub mod Instances
pub mod Values
pub mod Refined
pub mod Chosen
pub mod Located
