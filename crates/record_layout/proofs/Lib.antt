pub mod OneOutcome
pub mod Examples
pub mod PointerLaws
pub mod AsIn01
