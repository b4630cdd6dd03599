-- All that is promised: start with Demands.
pub mod Demands
pub mod Tie
pub mod Tied
