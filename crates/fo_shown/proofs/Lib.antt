pub mod Showing
pub mod Ways
pub mod Uses
pub mod Linking
pub mod Alikes
pub mod Copying
