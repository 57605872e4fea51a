mod Puts
pub mod Lists
mod Bytes
