-- Reading a text: what the call gives, and what its parts come to.
pub mod ReadText
pub mod Lexing
pub mod Passing
