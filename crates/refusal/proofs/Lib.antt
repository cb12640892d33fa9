pub mod Answer
pub mod Exactness
pub mod Firsts
pub mod Same
