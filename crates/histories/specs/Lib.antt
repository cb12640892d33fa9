pub mod Histories
pub mod Ideal
pub mod Made
pub mod Example
pub mod Theorems
