pub mod Recorded
pub mod Noted
