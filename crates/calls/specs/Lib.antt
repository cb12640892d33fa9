pub mod Refuses
pub mod Heard
pub mod Calls
pub mod Same
pub mod Published
pub mod Theorems
