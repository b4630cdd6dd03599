pub mod OneOutcome
pub mod Examples
pub mod SaidLaws
