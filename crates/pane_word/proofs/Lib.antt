pub mod WordLaws
pub mod Used
