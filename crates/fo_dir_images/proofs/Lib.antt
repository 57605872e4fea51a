pub mod Trailing
pub mod Placing
pub mod Siding
pub mod Same
pub mod Listing
pub mod Hanging
pub mod Sourcing
pub mod Naming
