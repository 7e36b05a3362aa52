pub mod Geometry
