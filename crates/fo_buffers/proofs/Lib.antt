pub mod Keeping
pub mod Tables
pub mod Once
pub mod Knowing
