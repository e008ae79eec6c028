pub mod Lists
pub mod Tags
