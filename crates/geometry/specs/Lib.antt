pub mod Geometry
pub mod Theorems
