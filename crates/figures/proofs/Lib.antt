pub mod Named
pub mod Shown
pub mod Lines
