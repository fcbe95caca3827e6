pub mod Transactions
pub mod Ran
pub mod Faults
pub mod Failing
pub mod Windows
pub mod SoFar
pub mod Added
pub mod Checked
