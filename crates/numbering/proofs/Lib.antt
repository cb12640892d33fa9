pub mod Positions
pub mod Numbering
pub mod SetNumbers
pub mod Steps
pub mod Theorems
