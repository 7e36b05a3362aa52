-- The definition of the numbers, and what their laws speak of.
pub mod Numbers
pub mod Laws
