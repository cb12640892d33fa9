pub mod Decimal
pub mod Theorems
