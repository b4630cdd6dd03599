pub mod PutLaws
pub mod BackLaws
pub mod OneOutcome
pub mod Used
