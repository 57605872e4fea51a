pub mod Closing
pub mod Kept
pub mod Pending
pub mod Slots
pub mod Steps
pub mod Work
