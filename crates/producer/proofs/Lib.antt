pub mod Standing
pub mod Screening
mod Replaying
pub mod Places
pub mod Falsity
pub mod Telling
pub mod Upholding
pub mod Ruling
mod Stacks
mod Scans
mod Moving
mod Ending
pub mod Splitting
