pub mod Course
pub mod Hands
pub mod Faults
pub mod Rights
pub mod Courses
