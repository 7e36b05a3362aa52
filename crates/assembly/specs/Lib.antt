-- Assembling a table from tokens: what each token writes into the table's bytes.
pub mod Pieces
pub mod Moves
pub mod Slots
pub mod Advances
