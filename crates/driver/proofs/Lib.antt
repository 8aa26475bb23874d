mod Asks
mod Leads
mod Guarantees
mod Lines
mod Telling
mod Showing
