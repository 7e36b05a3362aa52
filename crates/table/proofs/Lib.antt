pub mod Scans
pub mod Enough
pub mod Turns
pub mod Only
pub mod Verdicts
