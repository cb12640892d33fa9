pub mod Examples
pub mod Refusals
