pub mod RemainingPlaces
pub mod RemovedObjects
pub mod RemovalSteps
pub mod SoundAfterFreeing
pub mod OpenInodes
