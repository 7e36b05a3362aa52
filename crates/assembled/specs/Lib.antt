-- What an assembly holds of the trees that are read so far.
pub mod Holds
