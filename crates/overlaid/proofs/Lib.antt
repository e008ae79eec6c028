pub mod Laid
pub mod Defaults
pub mod Choosing
pub mod Rows
