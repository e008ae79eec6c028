pub mod Either
pub mod Rows
pub mod Next
pub mod Decided
pub mod Grounds
