pub mod Patches
pub mod Steps
pub mod Notes
pub mod Openings
pub mod Log
