pub mod References
pub mod Values
pub mod Decoded
pub mod Said
