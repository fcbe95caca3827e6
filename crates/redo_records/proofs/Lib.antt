mod Looking
mod Running
mod Leading
mod Beginnings
mod Suiting
mod Dooming
mod Noting
mod Telling
mod Rooms
pub mod Laws
