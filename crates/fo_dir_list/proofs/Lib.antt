pub mod Least
pub mod Numbers
pub mod Room
pub mod Walk
