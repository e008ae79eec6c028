pub mod Marked
pub mod Found
