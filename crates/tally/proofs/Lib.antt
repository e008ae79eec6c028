pub mod Counting
pub mod Owned
pub mod Shared
pub mod Eight
