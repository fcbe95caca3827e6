pub mod Note
pub mod Opened
