pub mod Counted
pub mod Tests
