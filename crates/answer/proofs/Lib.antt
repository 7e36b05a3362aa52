pub mod Pasting
pub mod Records
