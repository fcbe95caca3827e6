pub mod Changing
pub mod Records
pub mod Recovery
pub mod Pending
pub mod Kept
pub mod Recording
