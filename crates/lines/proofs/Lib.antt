pub mod Fronts
pub mod Reading
pub mod Answers
pub mod Forms
pub mod Theorems
pub mod TwoResults
