pub mod Entries
pub mod Keys
pub mod Pointers
pub mod Root
pub mod Stored
