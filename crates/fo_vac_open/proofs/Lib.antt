pub mod Entries
pub mod Held
mod Once
mod Opening
mod Stored
