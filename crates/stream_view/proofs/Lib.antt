pub mod ViewLaws
pub mod OneOutcome
pub mod Examples
