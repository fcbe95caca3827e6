pub mod Laws
pub mod ReadingSetups
pub mod Setups
pub mod Stores
