pub mod Filled
pub mod Verdict
pub mod Left
pub mod Known
