-- Reading a text's tokens into a tree, one after the other. That this is the grammar of crate text is proved, not believed (proofs/).
pub mod Classes
pub mod Progress
pub mod Edges
pub mod Parsed
