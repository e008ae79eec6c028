pub mod Byte
pub mod Payload
pub mod Scan
