pub mod WalkLaws
pub mod Used
