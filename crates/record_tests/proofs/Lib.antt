pub mod InOrder
pub mod Chain
