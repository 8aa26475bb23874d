pub mod Procedure
pub mod Happens
