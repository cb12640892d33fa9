pub mod Reasons
pub mod Answers
pub mod TwoResults
pub mod Exact
pub mod Back
