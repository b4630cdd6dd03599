pub mod Links
pub mod Pruned
pub mod Dropped
