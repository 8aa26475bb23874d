pub mod Starting
pub mod Sound
pub mod Bounded
pub mod Theorem
mod Examples
