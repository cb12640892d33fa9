pub mod Ascending
pub mod Bijections
pub mod Bools
pub mod Laws
pub mod Lists
pub mod Sums
