-- Rules as text: what a token is, which tokens the bytes of a text are, which tokens are a text, of which tree, and how a tree is printed.
pub mod Token
pub mod Spelling
pub mod Tokens
pub mod Text
pub mod Printed
