mod Written
mod Puts
pub mod Calls
mod Apart
mod Merging
mod Tables
mod After
