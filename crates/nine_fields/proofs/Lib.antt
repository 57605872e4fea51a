pub mod Bytes
pub mod Taking
pub mod Listing
pub mod Each
