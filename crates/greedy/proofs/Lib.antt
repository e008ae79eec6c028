pub mod Tied
pub mod Becomes
pub mod Pair
pub mod Rows
pub mod Level
pub mod Joins
pub mod Falls
pub mod Absent
