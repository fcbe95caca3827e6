pub mod InodeForms
pub mod DescriptionForms
pub mod AgreementAfterEdit
pub mod AgreementAfterCall
pub mod SlotNotes
