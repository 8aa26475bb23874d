pub mod Replying
pub mod Recording
pub mod Pairing
pub mod Procedure
pub mod Machine
pub mod Honesty
