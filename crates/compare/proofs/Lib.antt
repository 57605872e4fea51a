pub mod Keeping
pub mod Quieting
