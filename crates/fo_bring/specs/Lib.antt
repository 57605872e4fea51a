pub mod Blocks
pub mod Holds
