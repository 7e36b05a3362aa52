-- How a call's result stands in memory that C lends.
pub mod Words
