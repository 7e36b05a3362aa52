pub mod Facts
pub mod Only
