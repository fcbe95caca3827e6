mod Entries
mod Places
mod Keeping
mod Steps
