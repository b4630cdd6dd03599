pub mod Onward
pub mod ValueLaws
pub mod DecodedLaws
pub mod OwnLaws
pub mod OneOutcome
pub mod Examples
