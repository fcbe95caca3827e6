mod Names
mod Placed
