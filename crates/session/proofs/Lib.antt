pub mod Answering
pub mod Following
pub mod Rooms
