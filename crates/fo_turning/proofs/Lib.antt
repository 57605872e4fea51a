pub mod Closing
pub mod Flushing
pub mod Forgetting
pub mod Freeing
pub mod Releasing
pub mod Unlinking
pub mod Yielding
