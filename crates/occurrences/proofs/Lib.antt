pub mod Behind
pub mod Counting
pub mod Elements
pub mod Marks
pub mod Only
