mod Called
mod Firsts
mod Found
mod Sent
