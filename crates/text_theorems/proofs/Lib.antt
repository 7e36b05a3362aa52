-- What a table author can rely on when a text is read, from the bytes of the text and of the table's buffer.
pub mod Cases
pub mod Accepted
pub mod Refused
pub mod Calls
pub mod Ranged
pub mod Printing
pub mod Encodings
pub mod Formed
pub mod Back
