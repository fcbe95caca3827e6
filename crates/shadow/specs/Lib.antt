pub mod Committed
pub mod Claims
pub mod Looks
pub mod Stored
pub mod Effects
pub mod Laid
pub mod Agrees
