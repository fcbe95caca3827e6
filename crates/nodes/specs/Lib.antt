pub mod DirectoryEntries
pub mod Tables
pub mod Parts
pub mod Paths
pub mod Numbers
