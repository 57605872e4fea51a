pub mod Order
pub mod Along
pub mod Same
pub mod Puts
pub mod Changed
pub mod Made
pub mod Chosen
pub mod Looks
