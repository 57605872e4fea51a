pub mod Held
pub mod Recent
pub mod Kept
pub mod Arena
pub mod Names
pub mod Settling
pub mod Opening
