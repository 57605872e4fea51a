pub mod Flushes
pub mod Freed
pub mod Unlinks
