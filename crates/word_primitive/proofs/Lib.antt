pub mod OneOutcome
pub mod Examples
pub mod SheetTable
pub mod SheetLaws
