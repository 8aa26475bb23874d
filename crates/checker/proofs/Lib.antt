mod Keeping
mod Turning
mod Calling
mod Beginning
mod Tracing
pub mod Handing
mod Cutting
pub mod Standing
mod Restoring
mod Images
mod Posed
pub mod Found
mod Weaker
mod Moving
mod Opening
pub mod Holding
pub mod Going
mod Promising
pub mod Guaranteeing
pub mod Happening
pub mod Reopening
