mod Then
mod Walks
pub mod Laws
