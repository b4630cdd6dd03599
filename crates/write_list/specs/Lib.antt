pub mod Elements
pub mod ListsBack
pub mod Rows
