pub mod Answered
pub mod Forgotten
pub mod Lengths
pub mod Messages
pub mod Reading
pub mod Spelled
