pub mod Filled
pub mod Runs
pub mod Sums
pub mod Xor
pub mod Zeros
