-- The definition of where an input's table ends.
pub mod Input
