mod Claims
mod Showing
mod Keeping
mod Counting
