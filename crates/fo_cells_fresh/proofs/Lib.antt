pub mod Alone
pub mod Opened
pub mod Some
pub mod Formatted
pub mod Six
pub mod Several
