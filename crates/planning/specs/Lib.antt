pub mod Plan
pub mod Reasons
pub mod Example
