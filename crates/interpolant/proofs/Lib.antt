mod Resolving
pub mod Separating
pub mod Going
mod Gathering
mod Annotating
pub mod Pathways
pub mod Meanings
mod Zeros
mod Shortage
pub mod Adding
mod Determining
mod Counting
mod Drawn
