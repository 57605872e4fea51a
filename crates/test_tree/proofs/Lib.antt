pub mod Rigs
pub mod Grounds
pub mod Blanks
pub mod Aparts
pub mod Linking
pub mod Devices
