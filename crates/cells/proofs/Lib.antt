pub mod Sets
pub mod Roles
pub mod Examples
pub mod Steps
pub mod Theorems
