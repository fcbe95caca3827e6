-- Lists of calls.
pub mod Touches
pub mod UntidiedRuns
pub mod LiveLists
