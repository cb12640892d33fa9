pub mod Refusal
pub mod Due
