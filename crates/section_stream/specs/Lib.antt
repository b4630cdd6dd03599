pub mod Streams
pub mod Made
