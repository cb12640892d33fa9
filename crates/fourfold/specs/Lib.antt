pub mod Writing
pub mod Ranges
pub mod Theorems
