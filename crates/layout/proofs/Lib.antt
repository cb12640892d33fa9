pub mod Regions
pub mod Places
pub mod SameDisk
pub mod Scanned
pub mod Found
pub mod Examples
pub mod Theorems
