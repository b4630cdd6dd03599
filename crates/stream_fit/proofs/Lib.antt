pub mod FaultLaws
pub mod WorstLaws
pub mod JudgeLaws
pub mod SentenceLaws
pub mod OneOutcome
pub mod Examples
pub mod AfterLaws
pub mod Used
