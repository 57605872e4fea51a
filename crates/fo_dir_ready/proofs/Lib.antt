pub mod Later
pub mod Paired
pub mod Rowed
