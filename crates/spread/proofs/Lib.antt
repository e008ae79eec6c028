pub mod Placing
pub mod Kept
pub mod Copying
pub mod Overlay
pub mod Front
pub mod Rows
pub mod Standing
pub mod Set
