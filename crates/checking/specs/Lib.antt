pub mod Rules
pub mod Reasons
pub mod Table
pub mod Theorems
