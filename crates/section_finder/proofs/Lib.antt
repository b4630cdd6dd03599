pub mod FinderLaws
pub mod DemandProof
pub mod OneOutcome
pub mod Examples
pub mod Used
