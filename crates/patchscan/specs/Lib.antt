pub mod Placed
pub mod Rules
