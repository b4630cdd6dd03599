pub mod WalkLaws
pub mod OneWalk
pub mod WalkedWhole
pub mod OneOutcome
pub mod Examples
pub mod Used
