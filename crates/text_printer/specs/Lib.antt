-- The call that prints a table as text.
pub mod PrintText
