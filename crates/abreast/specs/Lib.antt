pub mod Rows
pub mod Laid
pub mod Turned
pub mod Keeps
pub mod Opened
