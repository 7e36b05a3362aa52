-- What holds of the front of a table: the check looks at no byte behind it.
pub mod Tests
pub mod Front
