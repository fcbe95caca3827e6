pub mod Laws
mod shared
mod noting
mod claims
mod edits
mod committing
mod freeing
mod viewing
