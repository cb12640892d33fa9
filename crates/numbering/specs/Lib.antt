pub mod Positions
pub mod Numbering
pub mod Ranges
pub mod Theorems
