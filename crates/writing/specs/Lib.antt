pub mod Writing
pub mod Reasons
