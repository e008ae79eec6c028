pub mod Placed
pub mod Found
pub mod Verdict
