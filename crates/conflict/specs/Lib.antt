pub mod Clashing
pub mod Order
