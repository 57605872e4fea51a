pub mod Limits
pub mod Write
