pub mod Laws
pub mod Multiples
pub mod Fits
pub mod Examples
pub mod Theorems
