mod Coming
mod Going
pub mod Laws
mod Names
