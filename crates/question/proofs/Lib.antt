mod Cutting
pub mod Literals
pub mod Parts
pub mod Formulae
pub mod Variables
pub mod Ascents
pub mod Propriety
pub mod Holding
pub mod Frames
pub mod States
pub mod Paths
mod Listing
pub mod Sides
mod Turns
pub mod Laying
pub mod Counts
mod Fitting
pub mod Posing
pub mod Reading
pub mod Promises
pub mod Numbers
mod Pairs
