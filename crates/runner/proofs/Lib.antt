mod Stepping
mod Ending
