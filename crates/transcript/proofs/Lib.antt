mod Decimals
pub mod Laws
pub mod Lines
pub mod Names
pub mod Printing
mod Table
