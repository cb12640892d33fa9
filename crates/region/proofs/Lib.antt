pub mod Turns
pub mod Meets
pub mod Examples
pub mod Theorems
