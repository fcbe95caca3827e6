mod Words
mod Entries
mod Edits
mod Calls
pub mod Sent
