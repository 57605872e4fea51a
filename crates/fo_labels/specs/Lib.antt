pub mod Floor
pub mod Groups
pub mod Indexed
pub mod Mins
pub mod Minima
pub mod Region
pub mod Spelled
