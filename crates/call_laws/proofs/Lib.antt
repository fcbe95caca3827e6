mod Maps
mod Tidying
pub mod Laws
mod Numbers
mod Exceptions
mod Trees
mod FirstProcesses
mod Bounds
mod edits
mod calls
mod law
