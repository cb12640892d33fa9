pub mod Columns
pub mod Figure
pub mod Theorems
