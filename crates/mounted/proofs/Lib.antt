pub mod Sound
mod Maps
mod Closing
mod Staying
mod Beginning
mod Stepping
mod Choosing
mod Ordering
mod Releases
mod Viewing
mod Answered
mod First
mod Leaving
mod Asking
mod Outcomes
mod Apart
mod Setting
mod Room
