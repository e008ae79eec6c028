pub mod Shapes
pub mod Begins
pub mod Parts
pub mod States
pub mod Over
pub mod Slots
pub mod FromAccepted
