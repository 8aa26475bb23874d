pub mod Causes
mod ReadParts
mod ReadLines
mod ReadStored
pub mod Legality
mod Stages
mod Spelling
mod There
mod Again
pub mod Trips
mod Limits
mod Joins
mod Written
mod ReadSteps
pub mod ReadFirst
mod ReadNumbers
mod ReadWrong
mod ReadOnce
pub mod ReadReasons
