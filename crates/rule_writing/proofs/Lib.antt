-- What holds of writing a rule.
pub mod Bracketed
pub mod Listed
pub mod Pieces
pub mod Rules
pub mod Tokens
pub mod Short
