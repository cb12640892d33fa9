pub mod Reasons
pub mod Rules
pub mod TwoResults
pub mod Exact
