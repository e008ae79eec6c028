pub mod Kept
pub mod Front
pub mod Rows
