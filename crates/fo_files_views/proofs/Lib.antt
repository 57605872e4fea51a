pub mod Once
pub mod Beside
