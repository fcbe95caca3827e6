pub mod Contenders
pub mod Losses
pub mod Policy
pub mod Ranks
pub mod Verdicts
