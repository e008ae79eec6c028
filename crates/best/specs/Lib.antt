pub mod Longs
pub mod Picked
pub mod Searched
