pub mod Sets
pub mod Answers
pub mod Reasons
pub mod TwoResults
