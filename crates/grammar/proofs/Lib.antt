-- What holds of the grammar: a table is good exactly if it is the encoding of a well-formed tree, and so for goals; answers are read back.
pub mod Same
pub mod Slots
pub mod Places
pub mod Tests
pub mod Parts
pub mod Reading
pub mod Encoded
pub mod Bytes
pub mod Grammar
pub mod Goals
pub mod Answers
pub mod Calls
pub mod Examples
