pub mod Plain
pub mod Verdict
pub mod Hopless
