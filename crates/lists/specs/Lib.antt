pub mod Counted
pub mod Stretch
