pub mod Gives
pub mod Together
