pub mod Answers
pub mod Asked
pub mod Doing
pub mod Heard
pub mod Input
pub mod Parts
pub mod States
pub mod Streams
