pub mod Listing
pub mod Patches
