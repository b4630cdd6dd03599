pub mod SpellingLaws
pub mod OneOutcome
pub mod Used
