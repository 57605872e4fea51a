pub mod Steps
pub mod Telling
pub mod Late
pub mod Settling
