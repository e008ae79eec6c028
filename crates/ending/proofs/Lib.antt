pub mod Trailer
pub mod Ended
pub mod Written
