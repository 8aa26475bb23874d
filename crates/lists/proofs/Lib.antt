pub mod Taken
pub mod Pairs
