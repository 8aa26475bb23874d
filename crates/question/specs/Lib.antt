pub mod Questions
pub mod Clauses
pub mod Layout
pub mod Sizes
pub mod Writing
pub mod Meaning
pub mod Laid
pub mod Offsets
