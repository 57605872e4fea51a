pub mod Entries
pub mod Forms
pub mod Pieces
pub mod Pointers
pub mod Reached
pub mod Siblings
pub mod Spots
