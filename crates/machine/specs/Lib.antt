pub mod Bits
pub mod Values
pub mod Fits
pub mod Runs
pub mod Depth
pub mod Faults
pub mod Simulate
