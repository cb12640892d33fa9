pub mod Copy
pub mod Determined
pub mod Formatted
pub mod Numbers
pub mod Others
pub mod Parities
pub mod Theorems
pub mod Units
