pub mod Auditing
pub mod Reasons
pub mod Steps
