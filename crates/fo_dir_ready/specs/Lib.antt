pub mod Entries
pub mod Owning
