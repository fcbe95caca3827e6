pub mod Times
pub mod Noted
pub mod Events
pub mod Known
pub mod Laws
pub mod Rows
pub mod Kept
