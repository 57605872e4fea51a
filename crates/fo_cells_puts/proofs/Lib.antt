pub mod Puts
pub mod Linking
pub mod Coming
