pub mod Held
pub mod Timed
pub mod Room
