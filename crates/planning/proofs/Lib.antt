pub mod Answers
pub mod Bounds
pub mod Reasons
pub mod Taken
pub mod TwoResults
pub mod Example
