pub mod Holding
pub mod Counted
