pub mod ListLaws
pub mod OneOutcome
pub mod Examples
pub mod Used
