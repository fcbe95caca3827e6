mod Answering
mod Knowing
mod Noting
mod Listing
mod Ending
mod Telling
mod Reaching
mod NoAborts
pub mod Keeping
pub mod Apart
