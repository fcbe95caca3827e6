pub mod Touches
pub mod Active
pub mod Codes
pub mod Marks
pub mod Groups
pub mod Index
pub mod Ranges
pub mod Holders
