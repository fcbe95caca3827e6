-- What single calls come to.
pub mod Outcomes
pub mod Processes
