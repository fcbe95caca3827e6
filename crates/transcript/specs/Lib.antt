pub mod Flags
pub mod Line
pub mod Operation
pub mod Printer
pub mod Reply
pub mod Rights
pub mod Text
