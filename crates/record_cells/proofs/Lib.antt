pub mod FilledLaws
pub mod CellsTell
pub mod OneOutcome
pub mod Used
