pub mod Apart
pub mod Blanks
pub mod Causing
pub mod Fetching
pub mod Giving
pub mod Joining
pub mod Listing
mod Named
pub mod Updating
pub mod Hanging
