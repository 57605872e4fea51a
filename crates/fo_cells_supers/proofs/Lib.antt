pub mod Supers
pub mod Counting
