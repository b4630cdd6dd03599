pub mod Fit
pub mod Worst
pub mod Sentences
pub mod After
