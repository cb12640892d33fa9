pub mod Held
pub mod Reasons
pub mod Developed
pub mod Theorems
