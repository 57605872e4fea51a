pub mod Grown
pub mod Needed
pub mod of_linking
pub mod of_takeout
