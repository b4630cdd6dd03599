pub mod Report
pub mod Held
pub mod Sums
