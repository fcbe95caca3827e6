pub mod Below
pub mod Read
