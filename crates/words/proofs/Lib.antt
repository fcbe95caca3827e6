pub mod Limits
mod Rows
mod Same
