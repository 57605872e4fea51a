pub mod Turns
pub mod Opening
pub mod Places
pub mod Hanging
