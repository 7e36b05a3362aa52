-- What holds of reading tokens into a tree: the machine is the grammar.
pub mod Steps
pub mod Consumed
pub mod Turned
pub mod Forward
pub mod Complete
pub mod Sound
pub mod Finish
pub mod Exactly
pub mod Ranges
pub mod Tables
pub mod Examples
