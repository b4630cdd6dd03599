pub mod Spellings
pub mod Spelled
pub mod Sizes
