pub mod Bytes
pub mod Entries
pub mod Rest
pub mod Sides
pub mod Starts
pub mod TwoResults
