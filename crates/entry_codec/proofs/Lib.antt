pub mod CallForms
pub mod EntryForms
pub mod Formats
pub mod FrontForms
pub mod Loop
pub mod PartForms
pub mod Putting
pub mod ReplyForms
