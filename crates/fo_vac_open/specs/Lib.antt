pub mod Held
pub mod Laws
pub mod Open
pub mod Stored
pub mod Tree
