pub mod Every
pub mod Falling
pub mod Single
pub mod Beside
pub mod Settled
pub mod Chosen
