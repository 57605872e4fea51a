pub mod Choice
pub mod Laws
pub mod Looks
pub mod Same
pub mod Spots
