pub mod Blocks
pub mod Restored
pub mod Stored
pub mod Theorems
pub mod TwoResults
