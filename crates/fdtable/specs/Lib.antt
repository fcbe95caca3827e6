pub mod Lowest
pub mod Open
pub mod Pages
pub mod Patches
pub mod Words
