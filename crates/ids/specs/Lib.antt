pub mod Bounds
pub mod Errnos
pub mod Fixed
pub mod Flags
pub mod Forms
pub mod Order
pub mod Rights
