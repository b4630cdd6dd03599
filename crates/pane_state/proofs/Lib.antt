pub mod WalkLaws
pub mod SameWalkProof
