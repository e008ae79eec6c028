pub mod Single
pub mod Beside
pub mod Settled
pub mod Chosen
