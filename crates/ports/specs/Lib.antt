pub mod Ports
pub mod Runs
