pub mod Differing
pub mod Listing
