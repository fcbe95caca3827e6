pub mod Renaming
pub mod Renamed
pub mod Laws
pub mod Histories
