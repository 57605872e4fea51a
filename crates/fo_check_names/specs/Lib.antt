pub mod Finds
pub mod Names
pub mod Pairs
