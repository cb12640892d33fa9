pub mod Line
pub mod Theorems
