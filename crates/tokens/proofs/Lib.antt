-- What holds of the code's tokens.
pub mod SignReads
pub mod WordReads
pub mod DigitReads
pub mod Finds
