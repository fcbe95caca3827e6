mod Tallies
mod Counting
mod Places
mod Modes
mod Leaving
pub mod Laws
