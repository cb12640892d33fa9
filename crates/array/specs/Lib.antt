pub mod Array
pub mod Rules
pub mod Reasons
pub mod Theorems
