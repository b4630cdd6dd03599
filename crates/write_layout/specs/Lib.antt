pub mod Runs
pub mod Fields
pub mod Records
pub mod Lists
pub mod Buffer
pub mod RoundTrip
pub mod Types
