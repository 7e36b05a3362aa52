-- That the assembly follows the reading of tokens into a tree.
pub mod Putting
pub mod Behind
pub mod Links
pub mod Heads
pub mod Bodies
pub mod Sides
pub mod Phases
pub mod Near
pub mod Follows
