pub mod Plan
pub mod Written
pub mod Theorems
pub mod Example
