pub mod Interpolation
pub mod Parting
pub mod Drawing
pub mod Meaning
pub mod Example
