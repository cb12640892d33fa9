pub mod Shown
pub mod Theorems
pub mod Example
