pub mod Marks
pub mod Labels
pub mod Filled
pub mod Verdict
