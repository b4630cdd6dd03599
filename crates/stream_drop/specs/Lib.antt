pub mod Each
pub mod Passes
pub mod Drop
pub mod Sentences
