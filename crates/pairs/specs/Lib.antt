pub mod Taken
pub mod Keys
pub mod Tie
