pub mod Kept
pub mod Owned
pub mod Hops
