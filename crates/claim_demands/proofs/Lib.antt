pub mod Tied
pub mod Demands
