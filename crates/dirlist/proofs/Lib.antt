mod Names
mod Entries
mod Ordered
mod Laid
mod Noted
pub mod Laws
