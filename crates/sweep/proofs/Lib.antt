pub mod Places
pub mod Taken
pub mod Defaults
pub mod Worst
pub mod Far
pub mod Sweeping
pub mod Imaged
pub mod Verdict
