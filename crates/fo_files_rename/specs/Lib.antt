pub mod Rename
pub mod Change
