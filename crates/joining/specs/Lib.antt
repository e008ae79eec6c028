pub mod Filled
pub mod Rooted
pub mod Held
