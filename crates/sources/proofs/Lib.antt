pub mod Example
pub mod Lengths
pub mod Lists
pub mod Same
pub mod Sources
pub mod Stored
pub mod Theorems
