pub mod Cut
pub mod ServedText
pub mod Viewed
