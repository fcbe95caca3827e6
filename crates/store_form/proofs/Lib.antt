mod Apart
mod Forms
mod Growing
pub mod Laws
mod Reading
mod Running
