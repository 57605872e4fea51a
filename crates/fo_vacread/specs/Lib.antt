pub mod Honest
pub mod Refused
pub mod Stays
