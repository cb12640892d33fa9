pub mod Regions
pub mod Places
pub mod Ranges
pub mod Marks
pub mod Figure
pub mod Theorems
