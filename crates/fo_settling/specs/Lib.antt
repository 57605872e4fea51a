pub mod Clearings
pub mod Costs
pub mod of_cache
pub mod of_mind
