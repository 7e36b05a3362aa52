-- What holds of the published semantics and the definition (docs/SEMANTICS.md).
pub mod Alone
pub mod Match
pub mod Found
pub mod Occurrence
pub mod Substitutions
pub mod Bound
pub mod Sources
pub mod Following
pub mod First
pub mod Only
pub mod Ends
pub mod Steps
pub mod Held
pub mod Published
pub mod Runs
pub mod Located
pub mod Meant
