pub mod Depths
pub mod Opened
