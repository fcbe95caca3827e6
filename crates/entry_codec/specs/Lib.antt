pub mod Calls
pub mod Entries
pub mod Parts
pub mod Reading
pub mod ReadingCalls
pub mod ReadingEntries
pub mod ReadingReplies
pub mod Replies
