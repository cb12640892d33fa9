pub mod F
