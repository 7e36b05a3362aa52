pub mod Slots
pub mod Probed
pub mod Passing
