pub mod Finding
pub mod Promise
pub mod Complete
