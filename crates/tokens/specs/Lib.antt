-- What the code finds at the front of some bytes, as the definitions have it.
pub mod Views
pub mod Numerals
