pub mod First
pub mod Faults
pub mod Appending
pub mod Holds
pub mod Waiting
pub mod Keeps
