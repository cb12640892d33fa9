pub mod Bad
pub mod Steps
pub mod Theorems
