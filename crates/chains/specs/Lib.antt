pub mod Orders
pub mod Places
pub mod Sweeps
