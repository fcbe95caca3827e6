pub mod Messages
pub mod Sessions
