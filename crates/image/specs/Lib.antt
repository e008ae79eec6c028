pub mod Forms
pub mod Laid
pub mod Grounds
pub mod Passed
