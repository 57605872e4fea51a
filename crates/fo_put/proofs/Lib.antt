pub mod Linking
pub mod Placing
pub mod Reaching
pub mod Removing
pub mod Using
