pub mod PutIn
pub mod Ordered
pub mod Labels
pub mod Heads
pub mod Names
