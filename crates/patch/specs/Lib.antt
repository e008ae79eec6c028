pub mod Listed
pub mod Shaped
pub mod Overlay
