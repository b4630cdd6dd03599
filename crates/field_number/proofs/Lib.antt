pub mod OneOutcome
pub mod Examples
pub mod FormLaws
pub mod FormsProof
pub mod Used
