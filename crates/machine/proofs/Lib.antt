pub mod Chains
pub mod Count
pub mod Steps
pub mod Depths
pub mod Values
pub mod Operands
pub mod Covered
pub mod Plain
mod Feeding
mod Refusals
pub mod Reaching
