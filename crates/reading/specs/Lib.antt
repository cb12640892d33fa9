pub mod Reading
pub mod Reasons
