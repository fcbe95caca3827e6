pub mod Views
pub mod Claims
pub mod ProcessStates
pub mod Dooming
pub mod Standings
pub mod Edits
