pub mod Histories
pub mod Rule
pub mod Passes
pub mod Calls
pub mod Holding
