pub mod Calling
pub mod Only
