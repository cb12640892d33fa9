pub mod Settle
pub mod Calls
pub mod Heard
pub mod ForC
pub mod Same
pub mod Published
pub mod Written
pub mod Theorems
