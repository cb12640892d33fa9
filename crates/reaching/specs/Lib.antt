pub mod Reach
pub mod Theorems
pub mod Example
pub mod State
pub mod Logged
