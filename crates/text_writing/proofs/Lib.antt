-- What holds of writing: texts one behind the other, numbers, and the text of each term.
pub mod Writes
pub mod Decimal
pub mod Spelled
