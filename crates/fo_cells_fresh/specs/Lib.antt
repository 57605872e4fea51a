pub mod Fresh
pub mod Formatted
pub mod Several
