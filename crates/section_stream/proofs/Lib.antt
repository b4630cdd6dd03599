pub mod StreamLaws
pub mod MadeProof
pub mod Examples
