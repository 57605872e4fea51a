pub mod Formatted
pub mod Labels
