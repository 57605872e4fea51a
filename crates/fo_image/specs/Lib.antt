pub mod Field
pub mod Format
pub mod Part
pub mod Place
pub mod Record
pub mod Usable
pub mod of_base
