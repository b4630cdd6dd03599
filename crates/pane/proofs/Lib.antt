pub mod BitLaws
pub mod HeaderLaws
pub mod RestLaws
pub mod TallyProof
pub mod SameProof
pub mod TallyWitness
pub mod Examples
pub mod Used
