pub mod Clearing
pub mod Costing
pub mod Waiting
pub mod of_cache
pub mod of_mind
