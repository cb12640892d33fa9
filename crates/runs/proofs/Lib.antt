pub mod Gathered
pub mod Writes
