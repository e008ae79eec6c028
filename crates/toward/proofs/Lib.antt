pub mod Marks
pub mod Rounds
pub mod Picked
pub mod Best
pub mod Chosen
