pub mod Standing
pub mod Staying
pub mod Stored
pub mod Hopping
pub mod Sweeping
pub mod Entries
pub mod Verdict
pub mod Setting
