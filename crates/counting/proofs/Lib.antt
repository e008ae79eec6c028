pub mod HowOften
pub mod Column
pub mod LookUps
pub mod Counting
