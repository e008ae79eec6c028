pub mod Pieces
pub mod Measured
pub mod Values
