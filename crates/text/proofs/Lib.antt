-- What holds of tokens and texts.
pub mod Bytes
pub mod Lexing
pub mod Longest
pub mod First
pub mod Back
pub mod Neighbours
pub mod PrintedBack
