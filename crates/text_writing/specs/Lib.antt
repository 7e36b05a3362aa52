-- Writing a text into a buffer, and the text of each part of a table, byte by byte.
pub mod Written
pub mod Parts
