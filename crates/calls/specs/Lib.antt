pub mod Parts
pub mod Planned
