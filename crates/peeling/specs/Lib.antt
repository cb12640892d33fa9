pub mod Peeling
pub mod Theorems
