pub mod OneOutcome
pub mod Examples
pub mod WordLaws
pub mod Used
