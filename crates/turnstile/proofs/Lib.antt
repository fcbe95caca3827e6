pub mod Beginnings
pub mod Steps
pub mod Calls
pub mod Closing
pub mod Meeting
pub mod Living
mod Forking
pub mod Sent
pub mod Full
