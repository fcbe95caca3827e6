pub mod Controls
pub mod First
pub mod Room
pub mod Served
pub mod Server
pub mod Sound
pub mod Steppers
