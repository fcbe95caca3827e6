-- What one right entry does.
pub mod Moments
pub mod Kinds
pub mod ExecutedCalls
pub mod Soundness
pub mod Places
pub mod Phases
pub mod Lists
pub mod OwnStatus
pub mod Processes
pub mod Forks
