pub mod Images
pub mod Looking
pub mod Filling
pub mod Reading
pub mod Leaving
pub mod Trying
