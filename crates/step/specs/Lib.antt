pub mod Deciding
pub mod Outcomes
