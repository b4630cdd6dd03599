pub mod PieceLaws
pub mod RecordLaws
pub mod OneOutcome
pub mod FitLaws
pub mod Used
