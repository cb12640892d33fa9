pub mod Consistent
pub mod Theorems
