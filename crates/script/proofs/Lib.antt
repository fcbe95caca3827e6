pub mod Cuts
pub mod Drops
pub mod Tables
pub mod Decimals
pub mod Escapes
pub mod Reading
pub mod Counts
pub mod Queues
