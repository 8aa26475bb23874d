pub mod Valued
pub mod Building
pub mod Starts
pub mod Sizes
pub mod Turns
pub mod Writing
