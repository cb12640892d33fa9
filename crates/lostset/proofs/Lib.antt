pub mod Contracts
pub mod Sets
pub mod Theorems
