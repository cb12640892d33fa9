pub mod Exports
pub mod Told
pub mod Some
