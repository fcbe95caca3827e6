mod Lists
mod Passed
mod Answers
mod Law
mod Sums
mod Inodes
mod Contents
mod Places
mod Tables
mod rows
pub mod Laws
