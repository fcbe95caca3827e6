pub mod Events
pub mod Families
pub mod Positions
pub mod Port
pub mod Rules
pub mod Threads
pub mod Work
