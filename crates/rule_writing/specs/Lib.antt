-- The kinds of arguments and of parts that stand in lists: what writing one of a list says of a kind holds of each.
pub mod Kinds
