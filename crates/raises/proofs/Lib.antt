pub mod Ends
pub mod Turns
pub mod Accepted
pub mod Least
pub mod Worked
