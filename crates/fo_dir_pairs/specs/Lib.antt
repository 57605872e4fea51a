pub mod Calls
pub mod Example
pub mod Pairs
