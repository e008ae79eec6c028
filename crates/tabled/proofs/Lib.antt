pub mod Assembled
pub mod Ways
