mod Root
mod Rooms
