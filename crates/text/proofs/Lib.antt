pub mod Puts
pub mod Decimal
pub mod Line
