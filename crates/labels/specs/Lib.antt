pub mod Editions
pub mod Lists
pub mod Tags
