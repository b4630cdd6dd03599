pub mod FileLaws
pub mod BackLaws
pub mod PlacesLaws
pub mod ChainLaws
pub mod KeptProof
pub mod OneOutcome
pub mod Examples
pub mod Used
