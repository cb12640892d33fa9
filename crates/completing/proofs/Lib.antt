pub mod Groups
pub mod Closing
pub mod Completes
pub mod Theorems
