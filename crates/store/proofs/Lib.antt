mod Names
mod Rows
mod Counts
mod Chosen
mod Changes
mod Listings
mod Laying
mod Outcomes
mod Beside
mod Laid
mod Counted
mod Renamed
pub mod Laws
