pub mod Own
pub mod Grounds
pub mod Overlays
