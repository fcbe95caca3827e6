pub mod Indices
pub mod Content
pub mod Counts
pub mod Holders
pub mod Edits
pub mod Chosen
