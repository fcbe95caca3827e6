mod Written
mod Ways
mod Found
mod Orderly
mod Known
mod Numbers
mod Gone
