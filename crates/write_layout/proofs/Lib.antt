pub mod RunLaws
pub mod Back
pub mod Padding
pub mod RoundTripProof
pub mod Octets
pub mod Rewrite
pub mod TypeLaws
