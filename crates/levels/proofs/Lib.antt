pub mod Places
pub mod Within
pub mod Ranks
pub mod Levels
pub mod Payloads
pub mod FallBack
