pub mod Address
pub mod Reasons
