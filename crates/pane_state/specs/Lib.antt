pub mod Given
pub mod Finders
pub mod Walk
pub mod Entries
