pub mod OneDisk
pub mod Sources
pub mod Changes
pub mod Calls
pub mod Theorems
pub mod Example
