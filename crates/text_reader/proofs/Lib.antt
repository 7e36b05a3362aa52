-- What holds of reading a text.
pub mod Places
pub mod Nexts
pub mod Passes
pub mod Gives
