pub mod Message
pub mod Stands
pub mod Reading
pub mod Version
