pub mod KindBytes
pub mod Cases
pub mod Turns
pub mod Never
