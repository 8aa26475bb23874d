pub mod Driving
pub mod Guarantee
pub mod Texts
