pub mod Design
pub mod Theorems
