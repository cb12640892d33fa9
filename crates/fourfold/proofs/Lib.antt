pub mod Places
pub mod Blocks
pub mod Bytes
pub mod Starts
pub mod Theorems
pub mod Members
pub mod WrittenSets
