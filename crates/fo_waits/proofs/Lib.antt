pub mod Ending
pub mod Listing
pub mod Pairing
pub mod Taking
