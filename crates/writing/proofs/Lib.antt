pub mod Reasons
pub mod Twelve
pub mod Answers
pub mod TwoResults
pub mod Accepted
