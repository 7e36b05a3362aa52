-- The definition of words in bytes, and what their laws speak of.
pub mod Wire
pub mod Laws
