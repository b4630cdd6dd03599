pub mod Rewrite
pub mod Kept
