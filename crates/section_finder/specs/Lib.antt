pub mod Finders
pub mod Demand
