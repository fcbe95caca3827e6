mod Marked
mod Held
mod Dropping
mod Plain
pub mod Laws
