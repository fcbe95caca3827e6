mod Faulting
mod Telling
mod Recovering
mod Holding
mod Going
