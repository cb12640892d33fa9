pub mod Lost
pub mod Theorems
