-- What holds of printing a table.
pub mod Walks
pub mod Calling
pub mod Theorems
