pub mod Rebuild
pub mod Marked
pub mod Reasons
pub mod Theorems
pub mod Example
