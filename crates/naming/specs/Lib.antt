pub mod Ordered
pub mod Heads
