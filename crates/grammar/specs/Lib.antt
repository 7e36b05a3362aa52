-- The grammar of tables and goals: trees, their bytes, which trees are well formed, and how a tree is read back.
pub mod Tree
pub mod Encode
pub mod WellFormed
pub mod Layout
pub mod Answers
