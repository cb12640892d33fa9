pub mod Laws
pub mod Stores
pub mod Lines
pub mod Theorems
pub mod TwoResults
