mod Processes
mod Since
pub mod Runs
